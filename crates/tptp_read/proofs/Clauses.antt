-- Statements that are clauses are read token by token.
use Rattle.std.proofs.Common.{◌≡◌, ℕ, Bool, true, false, cond, List, [], ◌∷◌, length, Option, Some, None, Result, Err, refl, ap, subst, ◌∙◌, inl, inr}
use Rattle.std.specs.Prelude.{◌&&◌}
use Rattle.tptp_read.specs.Stream.{Tok}
use Rattle.tptp_read.specs.declared.statement.Statement.{Statement}
use Rattle.tptp_read.specs.declared.stop.Stop.{Stop}
use Rattle.tptp_read.specs.declared.stop.Stop.TheVariants as stops
use Rattle.tptp_read.specs.declared.refusal.Refusal.{Refusal}
use Rattle.tptp_read.specs.Grammar.{Item, Note, Form, cnf, is_name}
use Rattle.tptp_read.specs.Meaning.{Fault, syntax_fault, judged}
use Rattle.tptp_read.specs.Parse.{◌>>=◌, begins_with, behind, many_at}
use Rattle.tptp_read.specs.ParseClause.{items_of, item_at}
use Rattle.tptp_read.specs.ParseForm.{one_of, expect, is_tail, is_lower, note_at, cnf_at}
use Rattle.tptp_read.specs.LexemeView.{Fails}
use Rattle.tptp_read.specs.Shapes.{seen}
use Rattle.tptp_read.specs.Selected.{starts}
use Rattle.tptp_read.specs.Skim.{rest_of, after_note}
use Rattle.tptp_read.specs.Bodies.{disjunction_at, wrotes, Body, body_of, judged_body}
use Rattle.tptp_read.specs.Verdicts.{judged_form, refusal_of, IsOf, Tells}
use Rattle.tptp_read.proofs.ParseLaws.{some_is}
use Rattle.inst_logic.proofs.Booleans.{first_false}

-- ---- the name and the role

one_none : (p : Tok → Bool) (us : List Tok) → starts p us ≡ false → one_of p us ≡ None
unfolding one_of
one_none p [] e = refl
one_none p (t ∷ us) e = rw e refl

one_some : (p : Tok → Bool) (t : Tok) (us : List Tok) → p t ≡ true → one_of p (t ∷ us) ≡ Some (t, us)
unfolding one_of
one_some p t us e = rw e refl

no_1 : (d : ℕ) (ts : List Tok) → begins_with 40 ts ≡ false → cnf_at d ts ≡ None
unfolding cnf_at expect
no_1 d ts e = rw e refl

no_2 : (d : ℕ) (ts : List Tok) → begins_with 40 ts ≡ true → starts is_name (behind ts) ≡ false → cnf_at d ts ≡ None
unfolding cnf_at expect
no_2 d ts e f = rw (e, one_none is_name (behind ts) f) refl

no_3 : (d : ℕ) (ts us : List Tok) (n : Tok) → begins_with 40 ts ≡ true → behind ts ≡ n ∷ us → is_name n ≡ true → begins_with 44 us ≡ false → cnf_at d ts ≡ None
unfolding cnf_at expect
no_3 d ts us n e f g h = rw (e, f, one_some is_name n us g, h) refl

no_4 : (d : ℕ) (ts us : List Tok) (n : Tok) → begins_with 40 ts ≡ true → behind ts ≡ n ∷ us → is_name n ≡ true → begins_with 44 us ≡ true → starts is_lower (behind us) ≡ false → cnf_at d ts ≡ None
unfolding cnf_at expect
no_4 d ts us n e f g h k = rw (e, f, one_some is_name n us g, h, one_none is_lower (behind us) k) refl

no_5 : (d : ℕ) (ts us vs : List Tok) (n r : Tok) → begins_with 40 ts ≡ true → behind ts ≡ n ∷ us → is_name n ≡ true → begins_with 44 us ≡ true → behind us ≡ r ∷ vs → is_lower r ≡ true → begins_with 44 vs ≡ false → cnf_at d ts ≡ None
unfolding cnf_at expect
no_5 d ts us vs n r e f g h k l m = rw (e, f, one_some is_name n us g, h, k, one_some is_lower r vs l, m) refl

-- one token, if one is there
starts_is : (p : Tok → Bool) (us : List Tok) → starts p us ≡ true → (t : Tok) × (us ≡ t ∷ behind us) × (p t ≡ true)
starts_is p [] e = absurd cc
starts_is p (t ∷ us) e = (t, refl, e)

pub no_head : (d : ℕ) (t1 t2 t3 t4 t5 : List Tok) → behind t1 ≡ t2 → behind t2 ≡ t3 → behind t3 ≡ t4 → behind t4 ≡ t5
    → (begins_with 40 t1 && (starts is_name t2 && (begins_with 44 t3 && (starts is_lower t4 && begins_with 44 t5)))) ≡ false → cnf_at d t1 ≡ None
no_head d t1 t2 t3 t4 t5 b1 b2 b3 b4 e = elim (first_false (begins_with 40 t1) (starts is_name t2 && (begins_with 44 t3 && (starts is_lower t4 && begins_with 44 t5))) e) [
  | inl a ↦ no_1 d t1 a
  | inr a ↦ elim (first_false (starts is_name t2) (begins_with 44 t3 && (starts is_lower t4 && begins_with 44 t5)) a.1) [
    | inl b ↦ no_2 d t1 a.0 (ap (starts is_name) b1 ∙ b)
    | inr b ↦
        let n = starts_is is_name t2 b.0 in
        let at2 = b1 ∙ n.1 ∙ ap (λ us. n.0 ∷ us) b2 in
        elim (first_false (begins_with 44 t3) (starts is_lower t4 && begins_with 44 t5) b.1) [
          | inl c ↦ no_3 d t1 t3 n.0 a.0 at2 n.2 c
          | inr c ↦ elim (first_false (starts is_lower t4) (begins_with 44 t5) c.1) [
            | inl f ↦ no_4 d t1 t3 n.0 a.0 at2 n.2 c.0 (ap (starts is_lower) b3 ∙ f)
            | inr f ↦
                let r = starts_is is_lower t4 f.0 in
                no_5 d t1 t3 t5 n.0 r.0 a.0 at2 n.2 c.0 (b3 ∙ r.1 ∙ ap (λ us. r.0 ∷ us) b4) r.2 f.1
          ]
        ]
  ]
]

-- the name and the role are there
pub record IsHead (ts : List Tok) (n r : Tok) (rest : List Tok) : Type 0 where
  pub us : List Tok
  pub vs : List Tok
  pub opened : begins_with 40 ts ≡ true
  pub name : behind ts ≡ n ∷ us
  pub named : is_name n ≡ true
  pub comma : begins_with 44 us ≡ true
  pub role : behind us ≡ r ∷ vs
  pub lower : is_lower r ≡ true
  pub last : begins_with 44 vs ≡ true
  pub behind_it : behind vs ≡ rest

abbrev Parts : Type 0
Parts = (Item × List Item) × List Tok

abbrev finish : Tok → Tok → Item × List Item → Note × List Tok → Option Form
finish n r p x = cond (is_tail x.1) (Some (cnf n r p.0 (items_of p.1) x.0)) None

abbrev noted : ℕ → Tok → Tok → Parts → Option Form
noted d n r p = ◌>>=◌ {B = Form} (note_at d p.1) (finish n r p.0)

twice : (i : Option (Item × List Tok)) (m : Item × List Tok → Option (List Item × List Tok)) (k : Parts → Option Form)
    → ◌>>=◌ {B = Form} i (λ x. ◌>>=◌ {B = Form} (m x) (λ y. k ((x.0, y.0), y.1))) ≡ ◌>>=◌ {B = Form} (◌>>=◌ {B = Parts} i (λ x. ◌>>=◌ {B = Parts} (m x) (λ y. Some ((x.0, y.0), y.1)))) k
twice None m k = refl
twice (Some x) m k = once (m x) where
  once : (o : Option (List Item × List Tok)) → ◌>>=◌ {B = Form} o (λ y. k ((x.0, y.0), y.1)) ≡ ◌>>=◌ {B = Form} (◌>>=◌ {B = Parts} o (λ y. Some ((x.0, y.0), y.1))) k
  once None = refl
  once (Some y) = refl

at_head : (d : ℕ) (ts : List Tok) (n r : Tok) (rest : List Tok) → IsHead ts n r rest → cnf_at d ts ≡ ◌>>=◌ {B = Form} (disjunction_at d rest) (noted d n r)
unfolding cnf_at expect disjunction_at
at_head d ts n r rest h =
    rw (h.opened, h.name, one_some is_name n h.us h.named, h.comma, h.role, one_some is_lower r h.vs h.lower, h.last, h.behind_it)
    (twice (item_at d d rest) (λ x. many_at 124 (item_at d d) (length x.1) x.1) (noted d n r))

seen_is : (f : Item × List Item → Body) (o : Option Parts) (b : Body) (us : List Tok) → seen f o ≡ Some (b, us) → (p : Item × List Item) × (o ≡ Some (p, us)) × (f p ≡ b)
seen_is f None b us e = absurd cc
seen_is f (Some z) b us e = let same = some_is (f z.0, z.1) (b, us) e in (z.0, ap (λ (q : Body × List Tok). Some (z.0, q.1)) same, ap (λ (q : Body × List Tok). q.0) same)

rest_is : (o : Option (Note × List Tok)) (us : List Tok) → rest_of o ≡ Some us → (x : Note) × (o ≡ Some (x, us))
rest_is None us e = absurd cc
rest_is (Some z) us e = (z.0, ap (λ (vs : List Tok). Some (z.0, vs)) (some_is z.1 us e))

rest_none : (o : Option (Note × List Tok)) → rest_of o ≡ None → o ≡ None
rest_none None e = refl
rest_none (Some z) e = absurd cc

noted_is : (d : ℕ) (us vs : List Tok) → after_note d us ≡ Some vs → (x : Note) × (note_at d us ≡ Some (x, vs))
unfolding after_note
noted_is d us vs e = rest_is (note_at d us) vs e

noted_none : (d : ℕ) (us : List Tok) → after_note d us ≡ None → note_at d us ≡ None
unfolding after_note
noted_none d us e = rest_none (note_at d us) e

abbrev pub view : Item × List Item → Body
view p = body_of (wrotes p)

judged_is : (n r : Tok) (p : Item × List Item) (x : Note) → judged (cnf n r p.0 (items_of p.1) x) ≡ judged_body n r (view p)
judged_is n r p x = refl

whole_is : (d : ℕ) (ts : List Tok) (n r : Tok) (rest us vs : List Tok) (p : Item × List Item) (x : Note) → IsHead ts n r rest → disjunction_at d rest ≡ Some (p, us) → note_at d us ≡ Some (x, vs) → is_tail vs ≡ true → cnf_at d ts ≡ Some (cnf n r p.0 (items_of p.1) x)
whole_is d ts n r rest us vs p x h e f t = at_head d ts n r rest h ∙ rw (e, f, t) refl

pub cnf_done : (d : ℕ) (ts : List Tok) (n r : Tok) (rest us vs : List Tok) (b : Body) → IsHead ts n r rest → seen view (disjunction_at d rest) ≡ Some (b, us) → after_note d us ≡ Some vs → is_tail vs ≡ true → judged_form (cnf_at d ts) ≡ judged_body n r b
cnf_done d ts n r rest us vs b h read note tail =
    let p = seen_is view (disjunction_at d rest) b us read in
    let x = noted_is d us vs note in
    let whole = whole_is d ts n r rest us vs p.0 x.0 h p.1 x.1 tail in
    ap judged_form whole ∙ judged_is n r p.0 x.0 ∙ ap (judged_body n r) p.2

pub no_tail : (d : ℕ) (ts : List Tok) (n r : Tok) (rest us vs : List Tok) (b : Body) → IsHead ts n r rest → seen view (disjunction_at d rest) ≡ Some (b, us) → after_note d us ≡ Some vs → is_tail vs ≡ false → judged_form (cnf_at d ts) ≡ Err syntax_fault
no_tail d ts n r rest us vs b h read note tail =
    let p = seen_is view (disjunction_at d rest) b us read in
    let x = noted_is d us vs note in
    let whole : cnf_at d ts ≡ None = at_head d ts n r rest h ∙ rw (p.1, x.1, tail) refl in
    ap judged_form whole

pub no_note : (d : ℕ) (ts : List Tok) (n r : Tok) (rest us : List Tok) (b : Body) → IsHead ts n r rest → seen view (disjunction_at d rest) ≡ Some (b, us) → after_note d us ≡ None → judged_form (cnf_at d ts) ≡ Err syntax_fault
no_note d ts n r rest us b h read note =
    let p = seen_is view (disjunction_at d rest) b us read in
    let whole : cnf_at d ts ≡ None = at_head d ts n r rest h ∙ rw (p.1, noted_none d us note) refl in
    ap judged_form whole

seen_none : (f : Item × List Item → Body) (o : Option Parts) → seen f o ≡ None → o ≡ None
seen_none f None e = refl
seen_none f (Some z) e = absurd cc

pub no_body : (d : ℕ) (ts : List Tok) (n r : Tok) (rest : List Tok) (e : Stop) → IsHead ts n r rest → Fails e (seen view (disjunction_at d rest)) → IsOf (λ f. judged_form (cnf_at d ts) ≡ Err f) (refusal_of e)
no_body d ts n r rest stops.Memory h bad = tt
no_body d ts n r rest stops.Wrong h bad =
    let none = seen_none view (disjunction_at d rest) bad in
    let whole : cnf_at d ts ≡ None = at_head d ts n r rest h ∙ rw none refl in
    ap judged_form whole

pub tells_as : (r : Result Statement Refusal) (v w : Result Statement Fault) → v ≡ w → Tells r v → Tells r w
tells_as r v w e h = subst (λ (x : Result Statement Fault). Tells r x) e h
