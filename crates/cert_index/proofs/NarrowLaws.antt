-- Members of different classes, and how classes keep their numbers.
use Rattle.std.proofs.Common.{◌≡◌, ◌⊎◌, inl, inr, ℕ, suc, ◌+◌, ◌<◌, Bool, true, false, cond, not, List, [], ◌∷◌, ◌++◌, length, nat_eq, refl, ap, sym, ◌∙◌, subst, arith, below_more}
use Rattle.std.specs.Prelude.{◌||◌, if◌then◌else◌}
use Rattle.std.specs.List.{list_any, position_or_len}
use Rattle.std.proofs.lemmas.Bool.Decides.{Decides-eqb}
use Rattle.std.proofs.lemmas.List.{length-append}
use Rattle.std.proofs.Math.ListN.{get_or-append}
use Rattle.std.proofs.Math.Seq.{get_or-append_seam}
use Rattle.inst_logic.specs.EqualLaws.{and_both}
use Rattle.inst_logic.specs.Signed.{complement}
use Rattle.clause_form.specs.Literals.{id_eq}
use Rattle.clause_form.proofs.Assembly.{id_eq_decides}
use Rattle.term_bank.specs.Forest.{KeepsPlaces}
use Rattle.cert_index.specs.declared.fingerprint.Fingerprint.{Fingerprint}
use Rattle.cert_index.specs.declared.narrow.Class.{Class}
use Rattle.cert_index.specs.Fingerprints.{Differ, fingerprint_at}
use Rattle.cert_index.specs.Narrow.{AreNarrow, AreUnmarked, IsNarrow, class_eq, class_in, no_class}
use Rattle.cert_index.specs.Partners.{Head, head_at}
use Rattle.cert_index.proofs.HeadLaws.{first_stays}

pub class_itself : (c : Class) → class_eq c c ≡ true
class_itself c = and_both _ _ ((Decides-eqb c.symbol c.symbol).1 refl) ((Decides-eqb c.mark c.mark).1 refl)

-- a place that comes last
new_place : (c : Class) (cs : List Class) → list_any (class_eq c) cs ≡ false → position_or_len (class_eq c) (cs ++ c ∷ []) ≡ length cs
new_place c [] none = ap (λ b. cond (not b) (1 + 0) 0) (class_itself c)
new_place c (d ∷ cs) none = by (class_eq c d) refl (new_place c cs) none
  where
    by : (b : Bool) → class_eq c d ≡ b → (list_any (class_eq c) cs ≡ false → position_or_len (class_eq c) (cs ++ c ∷ []) ≡ length cs) → (b || list_any (class_eq c) cs) ≡ false
        → position_or_len (class_eq c) (d ∷ cs ++ c ∷ []) ≡ suc (length cs)
    by true e rest h = absurd (cc)
    by false e rest h = ap (λ b. cond (not b) (1 + position_or_len (class_eq c) (cs ++ c ∷ [])) 0) e ∙ (let r = rest h in omega arith)

old_place : (c : Class) (cs : List Class) → list_any (class_eq c) cs ≡ true → position_or_len (class_eq c) cs < length cs
old_place c [] some = absurd (cc)
old_place c (d ∷ cs) some = by (class_eq c d) refl (old_place c cs) some
  where
    by : (b : Bool) → class_eq c d ≡ b → (list_any (class_eq c) cs ≡ true → position_or_len (class_eq c) cs < length cs) → (b || list_any (class_eq c) cs) ≡ true → position_or_len (class_eq c) (d ∷ cs) < suc (length cs)
    by true e rest h = subst (λ n. n < suc (length cs)) (sym (ap (λ b. cond (not b) (1 + position_or_len (class_eq c) cs) 0) e)) (omega arith)
    by false e rest h = subst (λ n. n < suc (length cs)) (sym (ap (λ b. cond (not b) (1 + position_or_len (class_eq c) cs) 0) e)) (let l = rest h in omega arith)

no_place : (c : Class) (cs : List Class) → list_any (class_eq c) cs ≡ false → position_or_len (class_eq c) cs ≡ length cs
no_place c [] none = refl
no_place c (d ∷ cs) none = by (class_eq c d) refl (no_place c cs) none
  where
    by : (b : Bool) → class_eq c d ≡ b → (list_any (class_eq c) cs ≡ false → position_or_len (class_eq c) cs ≡ length cs) → (b || list_any (class_eq c) cs) ≡ false → position_or_len (class_eq c) (d ∷ cs) ≡ suc (length cs)
    by true e rest h = absurd (cc)
    by false e rest h = ap (λ b. cond (not b) (1 + position_or_len (class_eq c) cs) 0) e ∙ (let r = rest h in omega arith)

-- a class that is looked up, and goes last where it is new
module _ (cs ds : List Class) (c : Class) (grown : ds ≡ (if list_any (class_eq c) cs then cs else cs ++ c ∷ [])) where
  pub classes_kept : KeepsPlaces no_class cs ds
  classes_kept = subst (KeepsPlaces no_class cs) (sym grown) (by (list_any (class_eq c) cs))
    where
      by : (b : Bool) → KeepsPlaces no_class cs (if b then cs else cs ++ c ∷ [])
      by true = (omega arith, λ i w. refl)
      by false = (let n = length-append cs (c ∷ []) in omega arith, λ i w. get_or-append cs (c ∷ []) no_class i w)

  pub same_number : position_or_len (class_eq c) cs ≡ position_or_len (class_eq c) ds
  same_number = by (list_any (class_eq c) cs) refl
    where
      by : (b : Bool) → list_any (class_eq c) cs ≡ b → position_or_len (class_eq c) cs ≡ position_or_len (class_eq c) ds
      by true e = sym (first_stays no_class (class_eq c) cs ds classes_kept (old_place c cs e))
      by false e = no_place c cs e ∙ sym (ap (position_or_len (class_eq c)) (grown ∙ ap (λ b. if b then cs else cs ++ c ∷ []) e) ∙ new_place c cs e)

-- what is numbered stays so
pub narrow_later : (cs ds : List Class) → KeepsPlaces no_class cs ds → (ks : List ℕ) (h : Head) (p : Fingerprint) (n : Head) → IsNarrow cs ks h p n → IsNarrow ds ks h p n
narrow_later cs ds kept ks h p n is =
    let low : position_or_len (class_eq (class_in ks h p)) cs < length cs = subst (λ k. k < length cs) is.number is.known in
    record {
      sign = is.sign;
      number = is.number ∙ sym (first_stays no_class (class_eq (class_in ks h p)) cs ds kept low);
      known = let k = is.known in let l = kept.0 in omega arith;
    }

-- one more member
pub one_more_narrow : (cs ds : List Class) → KeepsPlaces no_class cs ds → (ks : List ℕ) (hs : List Head) (ps : List Fingerprint) (ns : List Head) (i : ℕ) (n : Head) → length ns ≡ i
    → ((k : ℕ) → k < i → IsNarrow cs ks (head_at hs k) (fingerprint_at ps k) (head_at ns k)) → IsNarrow ds ks (head_at hs i) (fingerprint_at ps i) n
    → (k : ℕ) → k < i + 1 → IsNarrow ds ks (head_at hs k) (fingerprint_at ps k) (head_at (ns ++ n ∷ []) k)
one_more_narrow cs ds kept ks hs ps ns i n len each last =
    below_more (λ k. IsNarrow ds ks (head_at hs k) (fingerprint_at ps k) (head_at (ns ++ n ∷ []) k)) i
    (λ k less. subst (IsNarrow ds ks (head_at hs k) (fingerprint_at ps k)) (sym (get_or-append ns (n ∷ []) _ k (omega arith))) (narrow_later cs ds kept ks (head_at hs k) (fingerprint_at ps k) (head_at ns k) (each k less)))
    (subst (λ q. IsNarrow ds ks (head_at hs i) (fingerprint_at ps i) (head_at (ns ++ n ∷ []) q)) len
    (subst (IsNarrow ds ks (head_at hs i) (fingerprint_at ps i)) (sym (get_or-append_seam ns n [] _)) last))

module _ (hs : List Head) (ps : List Fingerprint) (ks : List ℕ) (cs : List Class) (ns : List Head) (noted : AreUnmarked hs ps ks (length hs))
    (each : (k : ℕ) → k < length hs → IsNarrow cs ks (head_at hs k) (fingerprint_at ps k) (head_at ns k)) where
  -- members with complements for heads and other classes have different marks
  module _ (i j : ℕ) (left : i < length hs) (right : j < length hs) (heads : head_at hs j ≡ complement (head_at hs i)) (other : ¬ (head_at ns j ≡ complement (head_at ns i))) where
    atoms : (head_at hs j).atom ≡ (head_at hs i).atom
    atoms = ap (λ (h : Head). h.atom) heads

    signs : (head_at ns j).positive ≡ not (head_at ns i).positive
    signs = (each j right).sign ∙ ap (λ (h : Head). h.positive) heads ∙ ap not (sym (each i left).sign)

    classes : ¬ (class_in ks (head_at hs j) (fingerprint_at ps j) ≡ class_in ks (head_at hs i) (fingerprint_at ps i))
    classes same =
        let number : (head_at ns j).atom ≡ (head_at ns i).atom = (each j right).number ∙ ap (λ (c : Class). position_or_len (class_eq c) cs) same ∙ sym (each i left).number in
        other (λ z. record { positive = signs z; atom = number z })

    marks : ¬ ((if list_any (nat_eq (head_at hs j).atom) ks then 0 else (fingerprint_at ps j).own.first) ≡ (if list_any (nat_eq (head_at hs i).atom) ks then 0 else (fingerprint_at ps i).own.first))
    marks same = classes (λ z. record { symbol = atoms z; mark = same z })

    by_unmarked : (b : Bool) → list_any (nat_eq (head_at hs i).atom) ks ≡ b → list_any (nat_eq (head_at hs j).atom) ks ≡ b → Differ (fingerprint_at ps i) (fingerprint_at ps j)
    by_unmarked true e f = absurd (marks (ap (λ b. if b then 0 else (fingerprint_at ps j).own.first) f ∙ sym (ap (λ b. if b then 0 else (fingerprint_at ps i).own.first) e)))
    by_unmarked false e f = inl (inl (record {
      left = λ zero. let t : false ≡ true = sym e ∙ noted i left zero in absurd (cc);
      right = λ zero. let t : false ≡ true = sym f ∙ noted j right zero in absurd (cc);
      differ = λ same. marks (ap (λ b. if b then 0 else (fingerprint_at ps j).own.first) f ∙ sym same ∙ sym (ap (λ b. if b then 0 else (fingerprint_at ps i).own.first) e));
    }))

    differ_there : Differ (fingerprint_at ps i) (fingerprint_at ps j)
    differ_there = by_unmarked (list_any (nat_eq (head_at hs i).atom) ks) refl (ap (λ n. list_any (nat_eq n) ks) atoms)

  pub are_narrow : AreNarrow hs ps ns
  are_narrow i j left right other = by (id_eq (head_at hs j) (complement (head_at hs i))) refl
    where
      by : (b : Bool) → id_eq (head_at hs j) (complement (head_at hs i)) ≡ b → ¬ (head_at hs j ≡ complement (head_at hs i)) ⊎ Differ (fingerprint_at ps i) (fingerprint_at ps j)
      by true e = inr (differ_there i j left right ((id_eq_decides (head_at hs j) (complement (head_at hs i))).0 e) other)
      by false e = inl (λ same. let t : false ≡ true = sym e ∙ (id_eq_decides (head_at hs j) (complement (head_at hs i))).1 same in cc)

-- what stands in a set stays there
pub still_there : (b o : Bool) → o ≡ true → cond b true o ≡ true
still_there true o h = refl
still_there false o h = h

abbrev pub class_by : ℕ → ℕ → Bool → Class
class_by symbol mark b = record { symbol = symbol; mark = if b then 0 else mark }
