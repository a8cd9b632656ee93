-- Symbols that are chosen among others, and their places in sets.
use Rattle.std.proofs.Common.{◌≡◌, ℕ, ◌+◌, ◌<◌, List, [], ◌∷◌, ◌++◌, refl, sym, ap, ◌∙◌, Bool, true, false, cond, not, take, length, get_or, filter, nat_lt, position, Some, None, arith}
use Rattle.std.specs.List.{position_or_len}
use Rattle.std.specs.Cmp.{decided}
use Rattle.std.proofs.lemmas.Bool.Decides.{nat_tests}
use Rattle.std.proofs.lemmas.List.{append-nil, take_more}
use Rattle.std.proofs.lemmas.List.Elements.{filter-append}
use Rattle.std.proofs.lemmas.List.Quantifiers.{position-Some}
use Rattle.std.proofs.lemmas.List.Sums.{position_or_len_is, prefix_len-le-length}
use Rattle.inst_logic.specs.declared.symbol.Sym.{Sym}
use Rattle.inst_logic.specs.Equal.{sym_eq}
use Rattle.inst_logic.specs.Lists.{distinct, with_item}
use Rattle.inst_logic.specs.Clauses.{TreeClause}
use Rattle.inst_logic.specs.WellFormed.{is_function_kind}
use Rattle.inst_logic.proofs.Distinct.{distinct_more}
use Rattle.inst_logic.proofs.SameLemmas.{sym_eq_decides}
use Rattle.inst_calculus.specs.Axioms.{occurrences, symbols_of, is_predicate_kind}
use Rattle.inst_calculus.proofs.Distinct.{IsDistinct, distinct_of_distinct, distinct_is_distinct}
use Rattle.inst_calculus.proofs.Filters.{from_filter}
use Rattle.finite_model.specs.Tables.{functions_of, predicates_of}

symmetric : (s r : Sym) → sym_eq s r ≡ sym_eq r s
symmetric = (decided sym_eq sym_eq_decides).symm

module _ (test : Sym → Bool) where
  one_more : (ks : List Sym) (s : Sym) (b : Bool) → test s ≡ b → distinct sym_eq (ks ++ filter test (s ∷ [])) ≡ cond b (with_item sym_eq (distinct sym_eq ks) s) (distinct sym_eq ks)
  one_more ks s true e = rw e (distinct_more sym_eq sym_eq_decides ks s)
  one_more ks s false e = rw e (ap (distinct sym_eq) (append-nil ks))

  -- the chosen ones of the first symbols and one more
  pub chosen_more : (ss : List Sym) (i : ℕ) (d : Sym) → i < length ss
      → distinct sym_eq (filter test (take (i + 1) ss)) ≡ cond (test (get_or ss i d)) (with_item sym_eq (distinct sym_eq (filter test (take i ss))) (get_or ss i d)) (distinct sym_eq (filter test (take i ss)))
  chosen_more ss i d h =
      ap (λ xs. distinct sym_eq (filter test xs)) (take_more ss i d h)
      ∙ ap (distinct sym_eq) (filter-append test (take i ss) (get_or ss i d ∷ []))
      ∙ one_more (filter test (take i ss)) (get_or ss i d) (test (get_or ss i d)) refl

  filter_once : (ss : List Sym) → IsDistinct ss → IsDistinct (filter test ss)
  filter_once [] h = tt
  filter_once (s ∷ ss) h = go (test s) (filter_once ss h.1)
    where
      go : (b : Bool) → IsDistinct (filter test ss) → IsDistinct (cond b (s ∷ filter test ss) (filter test ss))
      go true rest = (λ i. h.0 (from_filter test s ss i).0, rest)
      go false rest = rest

  chosen_once : (cs : List TreeClause) → distinct sym_eq (filter test (symbols_of cs)) ≡ filter test (symbols_of cs)
  chosen_once cs = distinct_of_distinct sym_eq sym_eq_decides (filter test (symbols_of cs)) (filter_once (symbols_of cs) (distinct_is_distinct sym_eq sym_eq_decides (occurrences cs)))

pub functions_chosen : (cs : List TreeClause) (symbols : List Sym) → symbols ≡ symbols_of cs → distinct sym_eq (filter (λ s. is_function_kind s.kind) symbols) ≡ functions_of cs
functions_chosen cs symbols e = ap (λ ss. distinct sym_eq (filter (λ (s : Sym). is_function_kind s.kind) ss)) e ∙ chosen_once (λ (s : Sym). is_function_kind s.kind) cs

pub predicates_chosen : (cs : List TreeClause) (symbols : List Sym) → symbols ≡ symbols_of cs → distinct sym_eq (filter (λ s. is_predicate_kind s.kind) symbols) ≡ predicates_of cs
predicates_chosen cs symbols e = ap (λ ss. distinct sym_eq (filter (λ (s : Sym). is_predicate_kind s.kind) ss)) e ∙ chosen_once (λ (s : Sym). is_predicate_kind s.kind) cs

-- the place of a symbol that a set finds, or doesn't
place_either_way : (s : Sym) (ks : List Sym) → position_or_len (λ r. sym_eq r s) ks ≡ position_or_len (sym_eq s) ks
place_either_way s ks = λ i. position_or_len (λ r. symmetric r s i) ks

pub symbol_found : (s : Sym) (ks : List Sym) (i : ℕ) → position (sym_eq s) ks ≡ Some i → i ≡ position_or_len (λ r. sym_eq r s) ks
symbol_found s ks i h =
    let at = position-Some (sym_eq s) ks i s h in
    sym (place_either_way s ks ∙ position_or_len_is (sym_eq s) ks i s (omega (arith, at.0)) at.2 (λ within. at.1))

pub symbol_absent : (s : Sym) (ks : List Sym) → position (sym_eq s) ks ≡ None → length ks ≡ position_or_len (λ r. sym_eq r s) ks
symbol_absent s ks h = past ∙ sym (place_either_way s ks)
  where
    by : (b : Bool) → nat_lt (position_or_len (sym_eq s) ks) (length ks) ≡ b → cond b (Some (position_or_len (sym_eq s) ks)) None ≡ None → length ks ≡ position_or_len (sym_eq s) ks
    by true e g = absurd (cc)
    by false e g = let most = prefix_len-le-length (λ r. not (sym_eq s r)) ks in grind (arith, nat_tests)

    past : length ks ≡ position_or_len (sym_eq s) ks
    past = by (nat_lt (position_or_len (sym_eq s) ks) (length ks)) refl h
