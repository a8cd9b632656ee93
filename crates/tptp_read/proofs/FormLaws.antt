-- Whole statements: what is read is spelled so, and what is spelled so is read.
use Rattle.std.proofs.Common.{◌≡◌, ℕ, suc, ◌≤◌, Bool, true, false, cond, List, [], ◌∷◌, length, Some, None, refl, sym, ap, subst, ◌∙◌, inl, inr, arith}
use Rattle.std.specs.Prelude.{◌&&◌, codes, Option}
use Rattle.std.specs.List.{list_all}
use Rattle.std.specs.Str.{bytes_eq}
use Rattle.std.proofs.lemmas.Slice.Eq.{bytes_eq-Decides}
use Rattle.tptp_read.specs.declared.kind.TokenKind.{TokenKind}
use Rattle.tptp_read.specs.declared.kind.TokenKind.TheVariants.{LowerWord, Variable, DollarWord, QuotedWord, DistinctObject, Integer, Rational, Real, Punctuation}
use Rattle.tptp_read.specs.Stream.{Tok}
use Rattle.tptp_read.specs.Lexemes.{mark, lower, is_lower_kind}
use Rattle.tptp_read.specs.Grammar.{Item, Items, item, items, item_fits, items_fit, general, generals, general_fits, generals_fit, Note, unnoted, source, with_empty, with_list, note, note_fits, Form, cnf, whole, selected, is_name, names, form, form_fits, IsForm}
use Rattle.tptp_read.specs.Parse.{◌>>=◌, begins_with, behind, many_at}
use Rattle.tptp_read.specs.ParseClause.{items_of, item_at}
use Rattle.tptp_read.specs.ParseGeneral.{listing_with, general_at}
use Rattle.tptp_read.specs.ParseForm.{one_of, expect, is_nothing, is_tail, is_lower, is_quoted, note_at, cnf_at, include_at, form_at}
use Rattle.tptp_read.proofs.ParseLaws.{both_true, and_both, bind_some, chosen, some_is, begins_is}
use Rattle.tptp_read.proofs.ClauseLaws.{Follows}
use Rattle.tptp_read.proofs.ManyLaws.{spell_all, all_fit, spelled_many, AllAgain, many_again}
use Rattle.tptp_read.proofs.Lengths.{item_deep_len, items_deep_len}
use Rattle.tptp_read.proofs.ItemLaws.{item_depth, items_depth, listed_items, items_len, items_listed, items_spelled, all_items_spelled, all_items_fit, item_spelled, item_again, items_again, after_or, follows_items}
use Rattle.tptp_read.proofs.GeneralLaws.{Goes, general_len, generals_len, no_close, listing_spelled, general_spelled, listing_at, general_again, generals_again}
use Rattle.std.proofs.lemmas.Option.{none-some}

pub expect_is : (b : ℕ) (ts us : List Tok) → expect b ts ≡ Some us → ts ≡ mark b ∷ us
unfolding expect
expect_is b ts us e = elim (chosen (begins_with b ts) (Some (behind ts)) None (Some us) e) [
  | inl w ↦ begins_is b ts w.0 ∙ ap (λ vs. mark b ∷ vs) (some_is (behind ts) us w.1)
  | inr w ↦ absurd cc
]

abbrev IsOneAnd : (Tok → Bool) → List Tok → Tok × List Tok → Type 0
IsOneAnd p ts z = (ts ≡ z.0 ∷ z.1) × (p z.0 ≡ true)

pub one_is : (p : Tok → Bool) (ts : List Tok) (z : Tok × List Tok) → one_of p ts ≡ Some z → IsOneAnd p ts z
unfolding one_of
one_is p [] z e = absurd cc
one_is p (t ∷ ts) z e = elim (chosen (p t) (Some (t, ts)) None (Some z) e) [
  | inl w ↦ subst (IsOneAnd p (t ∷ ts)) (some_is (t, ts) z w.1) (refl, w.0)
  | inr w ↦ absurd cc
]

nothing_is : (ts : List Tok) → is_nothing ts ≡ true → ts ≡ []
nothing_is [] e = refl
nothing_is (t ∷ ts) e = absurd cc

pub tail_is : (ts : List Tok) → is_tail ts ≡ true → ts ≡ mark 41 ∷ mark 46 ∷ []
tail_is ts e =
    let b = both_true (begins_with 41 ts) (begins_with 46 (behind ts) && is_nothing (behind (behind ts))) e in
    let c = both_true (begins_with 46 (behind ts)) (is_nothing (behind (behind ts))) b.1 in
    begins_is 41 ts b.0 ∙ ap (λ us. mark 41 ∷ us) (begins_is 46 (behind ts) c.0 ∙ ap (λ us. mark 46 ∷ us) (nothing_is (behind (behind ts)) c.1))

-- What is read behind a first part: an item is a variable here, since the projections of one reading inside the next make
-- types that grow with each step.
read_behind : {A B C : Type 0} (r : Option A) (f : A → Option B) (y : B) → (r >>= f) ≡ Some y → ((x : A) → r ≡ Some x → f x ≡ Some y → C) → C
read_behind r f y e k = let a = bind_some r f y e in k a.0 a.1 a.2

abbrev IsNoteAnd : List Tok → Note × List Tok → Type 0
IsNoteAnd ts z = (ts ≡ note z.0 z.1) × (note_fits z.0 ≡ true)

pub note_spelled : (d : ℕ) (ts : List Tok) (z : Note × List Tok) → note_at d ts ≡ Some z → IsNoteAnd ts z
unfolding note_at
note_spelled d ts z e =
    elim (chosen (begins_with 44 ts) (general_at d (behind ts) >>= λ g. cond (begins_with 44 g.1) (expect 91 (behind g.1) >>= λ us. cond (begins_with 93 us) (Some (with_empty g.0, behind us)) (listing_with (general_at d) 93 us >>= λ l. Some (with_list g.0 l.0.0 l.0.1, l.1))) (Some (source g.0, g.1))) (Some (unnoted, ts)) (Some z) e) [
      | inl w ↦
          let a = bind_some (general_at d (behind ts)) (λ g. cond (begins_with 44 g.1) (expect 91 (behind g.1) >>= λ us. cond (begins_with 93 us) (Some (with_empty g.0, behind us)) (listing_with (general_at d) 93 us >>= λ l. Some (with_list g.0 l.0.0 l.0.1, l.1))) (Some (source g.0, g.1))) z w.1 in
          let first = general_spelled d (behind ts) a.0 a.1 in
          let front = begins_is 44 ts w.0 ∙ ap (λ us. mark 44 ∷ us) first.0 in
          elim (chosen (begins_with 44 a.0.1) (expect 91 (behind a.0.1) >>= λ us. cond (begins_with 93 us) (Some (with_empty a.0.0, behind us)) (listing_with (general_at d) 93 us >>= λ l. Some (with_list a.0.0 l.0.0 l.0.1, l.1))) (Some (source a.0.0, a.0.1)) (Some z) a.2) [
            | inl v ↦
                let b = bind_some (expect 91 (behind a.0.1)) (λ us. cond (begins_with 93 us) (Some (with_empty a.0.0, behind us)) (listing_with (general_at d) 93 us >>= λ l. Some (with_list a.0.0 l.0.0 l.0.1, l.1))) z v.1 in
                let opened = begins_is 44 a.0.1 v.0 ∙ ap (λ us. mark 44 ∷ us) (expect_is 91 (behind a.0.1) b.0 b.1) in
                elim (chosen (begins_with 93 b.0) (Some (with_empty a.0.0, behind b.0)) (listing_with (general_at d) 93 b.0 >>= λ l. Some (with_list a.0.0 l.0.0 l.0.1, l.1)) (Some z) b.2) [
                  | inl u ↦ subst (IsNoteAnd ts) (some_is (with_empty a.0.0, behind b.0) z u.1) (front ∙ ap (λ us. mark 44 ∷ general a.0.0 us) (opened ∙ ap (λ us. mark 44 ∷ mark 91 ∷ us) (begins_is 93 b.0 u.0)), first.1)
                  | inr u ↦
                      let l = bind_some (listing_with (general_at d) 93 b.0) (λ l. Some (with_list a.0.0 l.0.0 l.0.1, l.1)) z u.1 in
                      let inner = listing_spelled (general_at d) (general_spelled d) 93 b.0 l.0 l.1 in
                      subst (IsNoteAnd ts) (some_is (with_list a.0.0 l.0.0.0 l.0.0.1, l.0.1) z l.2) (front ∙ ap (λ us. mark 44 ∷ general a.0.0 us) (opened ∙ ap (λ us. mark 44 ∷ mark 91 ∷ us) inner.0), and_both (general_fits a.0.0) (general_fits l.0.0.0 && generals_fit l.0.0.1) first.1 inner.1)
                ]
            | inr v ↦ subst (IsNoteAnd ts) (some_is (source a.0.0, a.0.1) z v.1) (front, first.1)
          ]
      | inr w ↦ subst (IsNoteAnd ts) (some_is (unnoted, ts) z w.1) (refl, refl)
    ]

cnf_parts : (d : ℕ) (ts a : List Tok) (n : Tok × List Tok) (b : List Tok) (r : Tok × List Tok) (c : List Tok) (i : Item × List Tok) (is : List Item × List Tok) (x : Note × List Tok)
    → expect 40 ts ≡ Some a → one_of is_name a ≡ Some n → expect 44 n.1 ≡ Some b → one_of is_lower b ≡ Some r → expect 44 r.1 ≡ Some c → item_at d d c ≡ Some i
    → many_at 124 (item_at d d) (length i.1) i.1 ≡ Some is → note_at d is.1 ≡ Some x → is_tail x.1 ≡ true → IsForm (lower (codes "cnf") ∷ ts) (cnf n.0 r.0 i.0 (items_of is.0) x.0)
cnf_parts d ts a n b r c i is x ea en eb er ec ei es ex end =
    let n' = one_is is_name a n en in
    let r' = one_is is_lower b r er in
    let i' = item_spelled d d c i ei in
    let is' = spelled_many 124 item item_fits (item_at d d) (item_spelled d d) (length i.1) i.1 is es in
    let x' = note_spelled d is.1 x ex in
    let items' = is'.0 ∙ all_items_spelled is.0 is.1 ∙ ap (λ us. items (items_of is.0) us) (x'.0 ∙ ap (λ us. note x.0 us) (tail_is x.1 end)) in
    let whole' = expect_is 40 ts a ea ∙ ap (λ us. mark 40 ∷ us) (n'.0 ∙ ap (λ us. n.0 ∷ us) (expect_is 44 n.1 b eb ∙ ap (λ us. mark 44 ∷ us) (r'.0 ∙ ap (λ us. r.0 ∷ us) (expect_is 44 r.1 c ec ∙ ap (λ us. mark 44 ∷ us) (i'.0 ∙ ap (λ us. item i.0 us) items'))))) in
    let fits = and_both (is_name n.0) (is_lower_kind r.0.kind && (item_fits i.0 && (items_fit (items_of is.0) && note_fits x.0))) n'.1
    (and_both (is_lower_kind r.0.kind) (item_fits i.0 && (items_fit (items_of is.0) && note_fits x.0)) r'.1
    (and_both (item_fits i.0) (items_fit (items_of is.0) && note_fits x.0) i'.1 (and_both (items_fit (items_of is.0)) (note_fits x.0) (sym (all_items_fit is.0) ∙ is'.1) x'.1))) in
    record { spelled = ap (λ us. lower (codes "cnf") ∷ us) (sym whole'); fits = fits }

pub cnf_spelled : (d : ℕ) (ts : List Tok) (f : Form) → cnf_at d ts ≡ Some f → IsForm (lower (codes "cnf") ∷ ts) f
unfolding cnf_at
cnf_spelled d ts f e =
    read_behind (expect 40 ts) _ f e (λ a ea e1.
    read_behind (one_of is_name a) _ f e1 (λ n en e2.
    read_behind (expect 44 n.1) _ f e2 (λ b eb e3.
    read_behind (one_of is_lower b) _ f e3 (λ r er e4.
    read_behind (expect 44 r.1) _ f e4 (λ c ec e5.
    read_behind (item_at d d c) _ f e5 (λ i ei e6.
    read_behind (many_at 124 (item_at d d) (length i.1) i.1) _ f e6 (λ is es e7.
    read_behind (note_at d is.1) _ f e7 (λ x ex e8.
    elim (chosen (is_tail x.1) (Some (cnf n.0 r.0 i.0 (items_of is.0) x.0)) None (Some f) e8) [
      | inl w ↦ subst (IsForm (lower (codes "cnf") ∷ ts)) (some_is (cnf n.0 r.0 i.0 (items_of is.0) x.0) f w.1) (cnf_parts d ts a n b r c i is x ea en eb er ec ei es ex w.0)
      | inr w ↦ absurd (none-some f w.1)
    ]))))))))

note_again : (n : Note) (d : ℕ) (rest : List Tok) → begins_with 44 rest ≡ false → Goes rest → note_fits n ≡ true → length (note n rest) ≤ d → note_at d (note n rest) ≡ Some (n, rest)
unfolding note_at expect
note_again unnoted d rest comma f fits le = rw comma refl
note_again (source g) d rest comma f fits le = rw (general_again g d rest f fits (omega (arith, general_len g rest)), comma) refl
note_again (with_empty g) d rest comma f fits le = rw (general_again g d (mark 44 ∷ mark 91 ∷ mark 93 ∷ rest) (record { opens = refl; colon = refl }) fits (omega (arith, general_len g (mark 44 ∷ mark 91 ∷ mark 93 ∷ rest)))) refl
note_again (with_list g h gs) d rest comma f fits le =
    let b = both_true (general_fits g) (general_fits h && generals_fit gs) fits in
    let c = both_true (general_fits h) (generals_fit gs) b.1 in
    let us = generals gs (mark 93 ∷ rest) in
    let vs = mark 44 ∷ mark 91 ∷ general h us in
    let l1 = general_len g vs in
    let l2 = general_len h us in
    let l3 = generals_len gs (mark 93 ∷ rest) in
    let first = general_again g d vs (record { opens = refl; colon = refl }) b.0 (omega (arith, l1)) in
    let list = listing_at (general_at d) 93 h gs rest refl refl (record { opens = refl; colon = refl }) (λ r goes. general_again h d r goes c.0 (omega (arith, l1, l2))) (generals_again gs d c.1 (omega (arith, l1, l2, l3))) in
    rw (first, no_close h us c.0, list) refl

abbrev pub tail : List Tok
tail = mark 41 ∷ mark 46 ∷ []

note_follows : (n : Note) → Follows (note n tail)
note_follows unnoted = record { opens = refl; equals = refl; differs = refl }
note_follows (source g) = record { opens = refl; equals = refl; differs = refl }
note_follows (with_empty g) = record { opens = refl; equals = refl; differs = refl }
note_follows (with_list g h gs) = record { opens = refl; equals = refl; differs = refl }

note_no_or : (n : Note) → begins_with 124 (note n tail) ≡ false
note_no_or unnoted = refl
note_no_or (source g) = refl
note_no_or (with_empty g) = refl
note_no_or (with_list g h gs) = refl

cnf_reads : (d : ℕ) (name role : Tok) (i : Item) (is : Items) (n : Note) → is_name name ≡ true → is_lower_kind role.kind ≡ true
    → item_at d d (item i (items is (note n tail))) ≡ Some (i, items is (note n tail)) → many_at 124 (item_at d d) (length (items is (note n tail))) (items is (note n tail)) ≡ Some (listed_items is, note n tail)
    → note_at d (note n tail) ≡ Some (n, tail) → cnf_at d (mark 40 ∷ name ∷ mark 44 ∷ role ∷ mark 44 ∷ item i (items is (note n tail))) ≡ Some (cnf name role i is n)
unfolding cnf_at expect one_of
cnf_reads d name role i is n a b c m x = rw (a, b, c, m, x, items_listed is) refl

pub cnf_again : (d : ℕ) (name role : Tok) (i : Item) (is : Items) (n : Note) → is_name name ≡ true → is_lower_kind role.kind ≡ true → item_fits i ≡ true → items_fit is ≡ true → note_fits n ≡ true
    → item_depth i ≤ d → items_depth is ≤ d → length (note n tail) ≤ d → cnf_at d (mark 40 ∷ name ∷ mark 44 ∷ role ∷ mark 44 ∷ item i (items is (note n tail))) ≡ Some (cnf name role i is n)
cnf_again d name role i is n a b fi fis fn di dis dn =
    let us = items is (note n tail) in
    let many = many_again 124 item item_fits Follows after_or (λ r. refl) (item_at d d) (length us) (listed_items is) (note n tail) (note_follows n) (note_no_or n) (omega (arith, items_len is (note n tail))) (items_again is d d fis dis dis) in
    cnf_reads d name role i is n a b (item_again i d d us (follows_items is (note n tail) (note_follows n)) fi di di)
    (subst (λ (vs : List Tok). many_at 124 (item_at d d) (length us) vs ≡ Some (listed_items is, note n tail)) (items_spelled is (note n tail)) many)
    (note_again n d tail refl (record { opens = refl; colon = refl }) fn dn)

-- ---- includes

abbrev spell_token : Tok → List Tok → List Tok
spell_token t rest = t ∷ rest

names_are : (ns rest : List Tok) → spell_all 44 spell_token is_name ns rest ≡ names ns rest
names_are [] rest = refl
names_are (n ∷ ns) rest = ap (λ us. mark 44 ∷ n ∷ us) (names_are ns rest)

names_fit : (ns : List Tok) → all_fit 44 spell_token is_name ns ≡ list_all is_name ns
names_fit [] = refl
names_fit (n ∷ ns) = ap (λ b. is_name n && b) (names_fit ns)

selected_parts : (ts a b c : List Tok) (q n : Tok × List Tok) (ns : List Tok × List Tok) (d : List Tok) → expect 40 ts ≡ Some a → one_of is_quoted a ≡ Some q → expect 44 q.1 ≡ Some b → expect 91 b ≡ Some c
    → one_of is_name c ≡ Some n → many_at 44 (one_of is_name) (length n.1) n.1 ≡ Some ns → expect 93 ns.1 ≡ Some d → is_tail d ≡ true → IsForm (lower (codes "include") ∷ ts) (selected q.0 n.0 ns.0)
selected_parts ts a b c q n ns d ea eq eb ec en es ed end =
    let q' = one_is is_quoted a q eq in
    let n' = one_is is_name c n en in
    let ns' = spelled_many 44 spell_token is_name (one_of is_name) (one_is is_name) (length n.1) n.1 ns es in
    let inside = ns'.0 ∙ names_are ns.0 ns.1 ∙ ap (λ us. names ns.0 us) (expect_is 93 ns.1 d ed ∙ ap (λ us. mark 93 ∷ us) (tail_is d end)) in
    let all = expect_is 40 ts a ea ∙ ap (λ us. mark 40 ∷ us) q'.0 ∙ ap (λ us. mark 40 ∷ q.0 ∷ us) (expect_is 44 q.1 b eb ∙ ap (λ us. mark 44 ∷ us) (expect_is 91 b c ec ∙ ap (λ us. mark 91 ∷ us) (n'.0 ∙ ap (λ us. n.0 ∷ us) inside))) in
    let fits = and_both (is_quoted q.0) (is_name n.0 && list_all is_name ns.0) q'.1 (and_both (is_name n.0) (list_all is_name ns.0) n'.1 (sym (names_fit ns.0) ∙ ns'.1)) in
    record { spelled = ap (λ us. lower (codes "include") ∷ us) (sym all); fits = fits }

whole_parts : (ts a : List Tok) (q : Tok × List Tok) → expect 40 ts ≡ Some a → one_of is_quoted a ≡ Some q → is_tail q.1 ≡ true → IsForm (lower (codes "include") ∷ ts) (whole q.0)
whole_parts ts a q ea eq end =
    let q' = one_is is_quoted a q eq in
    let all = expect_is 40 ts a ea ∙ ap (λ us. mark 40 ∷ us) q'.0 ∙ ap (λ us. mark 40 ∷ q.0 ∷ us) (tail_is q.1 end) in
    record { spelled = ap (λ us. lower (codes "include") ∷ us) (sym all); fits = q'.1 }

pub include_spelled : (ts : List Tok) (f : Form) → include_at ts ≡ Some f → IsForm (lower (codes "include") ∷ ts) f
unfolding include_at
include_spelled ts f e =
    read_behind (expect 40 ts) _ f e (λ a ea e1.
    read_behind (one_of is_quoted a) _ f e1 (λ q eq e2.
    elim (chosen (is_tail q.1) (Some (whole q.0)) (expect 44 q.1 >>= λ b. expect 91 b >>= λ c. one_of is_name c >>= λ n. many_at 44 (one_of is_name) (length n.1) n.1 >>= λ ns. expect 93 ns.1 >>= λ d. cond (is_tail d) (Some (selected q.0 n.0 ns.0)) None) (Some f) e2) [
      | inl w ↦ subst (IsForm (lower (codes "include") ∷ ts)) (some_is (whole q.0) f w.1) (whole_parts ts a q ea eq w.0)
      | inr w ↦
          read_behind (expect 44 q.1) _ f w.1 (λ b eb e3.
          read_behind (expect 91 b) _ f e3 (λ c ec e4.
          read_behind (one_of is_name c) _ f e4 (λ n en e5.
          read_behind (many_at 44 (one_of is_name) (length n.1) n.1) _ f e5 (λ ns es e6.
          read_behind (expect 93 ns.1) _ f e6 (λ d ed e7.
          elim (chosen (is_tail d) (Some (selected q.0 n.0 ns.0)) None (Some f) e7) [
            | inl v ↦ subst (IsForm (lower (codes "include") ∷ ts)) (some_is (selected q.0 n.0 ns.0) f v.1) (selected_parts ts a b c q n ns d ea eq eb ec en es ed v.0)
            | inr v ↦ absurd (none-some f v.1)
          ])))))
    ]))

whole_again : (file : Tok) → is_quoted file ≡ true → include_at (mark 40 ∷ file ∷ tail) ≡ Some (whole file)
unfolding include_at expect one_of
whole_again file q = rw q refl

Any : List Tok → Type 0
Any rest = Unit {0}

any : (rest : List Tok) → Any rest
unfolding Any
any rest = tt

after_any : (r : List Tok) → Any (mark 44 ∷ r)
after_any r = any (mark 44 ∷ r)

name_again : (n : Tok) (r : List Tok) → is_name n ≡ true → one_of is_name (n ∷ r) ≡ Some (n, r)
unfolding one_of
name_again n r e = rw e refl

names_again : (ns : List Tok) → list_all is_name ns ≡ true → AllAgain 44 spell_token is_name Any after_any (λ r. refl) (one_of is_name) ns
names_again [] e = tt
names_again (n ∷ ns) e = let b = both_true (is_name n) (list_all is_name ns) e in (λ r f. name_again n r b.0, names_again ns b.1)

names_len : (ns rest : List Tok) → length ns ≤ length (names ns rest)
names_len [] rest = omega arith
names_len (n ∷ ns) rest = omega (arith, names_len ns rest)

names_many : (ns rest : List Tok) → begins_with 44 rest ≡ false → list_all is_name ns ≡ true → many_at 44 (one_of is_name) (length (names ns rest)) (names ns rest) ≡ Some (ns, rest)
names_many ns rest other fit =
    let many = many_again 44 spell_token is_name Any after_any (λ r. refl) (one_of is_name) (length (names ns rest)) ns rest (any rest) other (names_len ns rest) (names_again ns fit) in
    subst (λ (us : List Tok). many_at 44 (one_of is_name) (length (names ns rest)) us ≡ Some (ns, rest)) (names_are ns rest) many

selected_reads : (file n : Tok) (ns : List Tok) → is_quoted file ≡ true → is_name n ≡ true → many_at 44 (one_of is_name) (length (names ns (mark 93 ∷ tail))) (names ns (mark 93 ∷ tail)) ≡ Some (ns, mark 93 ∷ tail)
    → include_at (mark 40 ∷ file ∷ mark 44 ∷ mark 91 ∷ n ∷ names ns (mark 93 ∷ tail)) ≡ Some (selected file n ns)
unfolding include_at expect one_of
selected_reads file n ns q a many = rw (q, a, many) refl

-- ---- statements

pub form_spelled : (ts : List Tok) (f : Form) → form_at ts ≡ Some f → IsForm ts f
unfolding form_at
form_spelled ts f e =
    let k = bind_some (one_of is_lower ts) _ f e in
    let k' = one_is is_lower ts k.0 k.1 in
    let word : (w : List ℕ) → bytes_eq k.0.0.text w ≡ true → ts ≡ lower w ∷ k.0.1 = λ w same.
    let kind = lower_is k.0.0.kind k'.1 in
    let text = (bytes_eq-Decides k.0.0.text w).0 same in
    let tok_is : k.0.0 ≡ lower w = λ i. record { kind = kind i; text = text i } in
    k'.0 ∙ ap (λ u. u ∷ k.0.1) tok_is in
    elim (chosen (bytes_eq k.0.0.text (codes "cnf")) (cnf_at (length ts) k.0.1) (cond (bytes_eq k.0.0.text (codes "include")) (include_at k.0.1) None) (Some f) k.2) [
      | inl w ↦ subst (λ (us : List Tok). IsForm us f) (sym (word (codes "cnf") w.0)) (cnf_spelled (length ts) k.0.1 f w.1)
      | inr w ↦ elim (chosen (bytes_eq k.0.0.text (codes "include")) (include_at k.0.1) None (Some f) w.1) [
        | inl v ↦ subst (λ (us : List Tok). IsForm us f) (sym (word (codes "include") v.0)) (include_spelled k.0.1 f v.1)
        | inr v ↦ absurd (none-some f v.1)
      ]
    ]
  where
    lower_is : (k : TokenKind) → is_lower_kind k ≡ true → k ≡ LowerWord
    lower_is LowerWord e = refl
    lower_is Punctuation e = absurd cc
    lower_is Variable e = absurd cc
    lower_is DollarWord e = absurd cc
    lower_is QuotedWord e = absurd cc
    lower_is DistinctObject e = absurd cc
    lower_is Integer e = absurd cc
    lower_is Rational e = absurd cc
    lower_is Real e = absurd cc

cnf_word : (us : List Tok) → form_at (lower (codes "cnf") ∷ us) ≡ cnf_at (suc (length us)) us
unfolding form_at one_of
cnf_word us = refl

include_word : (us : List Tok) → form_at (lower (codes "include") ∷ us) ≡ include_at us
unfolding form_at one_of
include_word us = refl

form_again : (f : Form) → form_fits f ≡ true → form_at (form f) ≡ Some f
form_again (cnf name role i is n) e =
    let b1 = both_true (is_name name) (is_lower_kind role.kind && (item_fits i && (items_fit is && note_fits n))) e in
    let b2 = both_true (is_lower_kind role.kind) (item_fits i && (items_fit is && note_fits n)) b1.1 in
    let b3 = both_true (item_fits i) (items_fit is && note_fits n) b2.1 in
    let b4 = both_true (items_fit is) (note_fits n) b3.1 in
    let us = items is (note n tail) in
    let l1 = item_deep_len i us in
    let l2 = items_deep_len is (note n tail) in
    cnf_word (mark 40 ∷ name ∷ mark 44 ∷ role ∷ mark 44 ∷ item i us)
    ∙ cnf_again _ name role i is n b1.0 b2.0 b3.0 b4.0 b4.1 (omega (arith, l1, l2)) (omega (arith, l1, l2)) (omega (arith, l1, l2))
form_again (whole file) e = include_word (mark 40 ∷ file ∷ tail) ∙ whole_again file e
form_again (selected file n ns) e =
    let b1 = both_true (is_quoted file) (is_name n && list_all is_name ns) e in
    let b2 = both_true (is_name n) (list_all is_name ns) b1.1 in
    include_word (mark 40 ∷ file ∷ mark 44 ∷ mark 91 ∷ n ∷ names ns (mark 93 ∷ tail)) ∙ selected_reads file n ns b1.0 b2.0 (names_many ns (mark 93 ∷ tail) refl b2.1)

pub form_read : (ts : List Tok) (f : Form) → IsForm ts f → form_at ts ≡ Some f
form_read ts f h = subst (λ (us : List Tok). form_at us ≡ Some f) h.spelled (form_again f h.fits)
