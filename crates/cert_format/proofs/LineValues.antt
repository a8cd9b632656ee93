-- What the machine takes is the text of a printable value.
use Rattle.std.proofs.Common.{◌≡◌, ◌≢◌, ℕ, ◌<◌, ◌≤◌, ◌^◌, true, false, List, [], ◌∷◌, ◌++◌, length, length-append, ◌+◌, ◌⊎◌, inl, inr, refl, sym, ap, ap₂, ◌∙◌, subst, arith}
use Rattle.std.specs.Prelude.{not, nat_eq, nat_le, nat_lt, All}
use Rattle.std.specs.List.{list_all}
use Rattle.std.proofs.lemmas.List.{append-nil, length-map}
use Rattle.std.proofs.lemmas.List.Elements.{All-nil, All-cons}
use Rattle.inst_logic.specs.declared.symbol.Kind.TheVariants.{Function}
use Rattle.inst_logic.specs.Clauses.{TreeClause}
use Rattle.inst_logic.specs.Printing.{is_readable_name}
use Rattle.inst_calculus.specs.Entries.{Entry}
use Rattle.cert_format.specs.Certificate.{Base, FirstRefutation, Refutation, Saturation, Covered, Certificate, first_refutation, refutation, saturation, covered}
use Rattle.cert_format.specs.Validity.{IsFirstOrigin}
use Rattle.cert_format.proofs.LineMachine.{all_shown, asked}
use Rattle.cert_format.specs.Printable.{HasFormat, IsTextName}
use Rattle.inst_logic.proofs.Numbers.{is_less, at_most}
use Rattle.cert_format.proofs.Writables.{IsWritable, later_two}
use Rattle.cert_format.specs.LineMachine.{Note, named, equality, member, selected, ground_of, ground_by, shown_by, input_by, side_by, rank, base_clauses, shown_clauses, are_shown, is_complete, Item, Header, Line, status, opening, version, constant, closing, count, fits}
use Rattle.cert_format.specs.LineTexts.{is_name_byte, is_text_name}
use Rattle.cert_format.specs.Formats.{clause_is_printable, is_known}
use Rattle.cert_format.specs.ValueLines.{shown_items, items_of, item_lines, header_of, lines_of}
use Rattle.std.proofs.lemmas.Bool.{and_parts}
use Rattle.cert_format.proofs.Formats.{read_format}
use Rattle.cert_format.proofs.ValueRuns.{IsSorted, good, base_append, shown_append}
use Rattle.cert_format.proofs.GroupItems.{parts_good}
use Rattle.cert_format.proofs.ValueLaws.{only}
use Rattle.cert_format.proofs.BodyItems.{IsBody, IsFinished}
use Rattle.cert_format.proofs.ItemGroups.{clauses_of, front, only_ranks, IsGroup, front_length, behind_length, base_own, base_other, shown_own, shown_other, none_left}
use Rattle.cert_format.proofs.GroupValues.{name_of, names_of, entry_origin, place_at, entries_of, places_of, hints_of, steps_of, input_of, terms_in, lines_of_items, by_in, bys_of, left_in, right_in, side_in, covers_of, inputs_back, axioms_back, header_for, good_parts, members_back, selected_back, grounds_back, lines_back, shown_back, covers_back, steps_back}
use Rattle.cert_format.proofs.PrintableGroups.{clauses_printable, names_printable, entries_printable, places_printable, steps_printable, lines_printable, bys_printable, covers_printable, first_entries}

-- ---- the value

rank_of_refutation : (f : ℕ) (name bot : List ℕ) (note : Note) → fits (header_for true f name bot) note ≡ true → rank note ≤ 4
rank_of_refutation f name bot (named w) e = omega arith
rank_of_refutation f name bot equality e = omega arith
rank_of_refutation f name bot (member o) e = omega arith
rank_of_refutation f name bot (selected o p) e = omega arith
rank_of_refutation f name bot ground_of e = omega arith
rank_of_refutation f name bot (ground_by k ts) e = omega arith
rank_of_refutation f name bot (shown_by hs) e = omega arith
rank_of_refutation f name bot (input_by b) e = absurd cc
rank_of_refutation f name bot (side_by l r s b) e = absurd cc

rank_of_saturation : (f : ℕ) (name bot : List ℕ) → nat_eq f 3 ≡ false → (note : Note) → fits (header_for false f name bot) note ≡ true → rank note ≤ 2
rank_of_saturation f name bot k (named w) e = omega arith
rank_of_saturation f name bot k equality e = omega arith
rank_of_saturation f name bot k (member o) e = omega arith
rank_of_saturation f name bot k (selected o p) e = omega arith
rank_of_saturation f name bot k ground_of e = absurd cc
rank_of_saturation f name bot k (ground_by n ts) e = absurd cc
rank_of_saturation f name bot k (shown_by hs) e = absurd cc
rank_of_saturation f name bot k (input_by b) e = absurd (let z : nat_eq f 3 ≡ true = e in cc)
rank_of_saturation f name bot k (side_by l r s b) e = absurd (let z : nat_eq f 3 ≡ true = e in cc)

rank_of_covered : (note : Note) → rank note ≤ 6
rank_of_covered (named w) = omega arith
rank_of_covered equality = omega arith
rank_of_covered (member o) = omega arith
rank_of_covered (selected o p) = omega arith
rank_of_covered ground_of = omega arith
rank_of_covered (ground_by n ts) = omega arith
rank_of_covered (shown_by hs) = omega arith
rank_of_covered (input_by b) = omega arith
rank_of_covered (side_by l r s b) = omega arith

-- behind the members of a saturation stand lines that show
behind_members : (f : ℕ) (name bot : List ℕ) (note : Note) → fits (header_for false f name bot) note ≡ true → 3 ≤ rank note → 5 ≤ rank note
behind_members f name bot (named w) e h = absurd (omega arith)
behind_members f name bot equality e h = absurd (omega arith)
behind_members f name bot (member o) e h = absurd (omega arith)
behind_members f name bot (selected o p) e h = absurd (omega arith)
behind_members f name bot ground_of e h = absurd cc
behind_members f name bot (ground_by n ts) e h = absurd cc
behind_members f name bot (shown_by hs) e h = absurd cc
behind_members f name bot (input_by b) e h = omega arith
behind_members f name bot (side_by l r s b) e h = omega arith

sorted_behind : (f : ℕ) (name bot : List ℕ) (is : List Item) → IsSorted 3 is → list_all (good (header_for false f name bot)) is ≡ true → IsSorted 5 is
sorted_behind f name bot [] s g = tt
sorted_behind f name bot (i ∷ is) s g = (behind_members f name bot i.note (good_parts (header_for false f name bot) i (and_parts (good (header_for false f name bot) i) _ g).0).0 s.0, s.1)

pub record IsOfValue (h : Header) (is : List Item) : Type 0 where
  pub value : Certificate
  pub header : header_of h.format h.name value ≡ h
  pub items : items_of value ≡ is
  pub known : HasFormat h.format value
  pub printable : IsWritable value

saturation_known : (f : ℕ) (name : List ℕ) (C : List Item) (b : Base) → b.members ≡ entries_of C → (places : List ℕ) → (f ≡ 1) ⊎ (f ≡ 2) → IsGroup 2 C → list_all (good (header_for false f name [])) C ≡ true
    → HasFormat f (saturation (record { base = b; places = places }))
saturation_known f name C b same places (inl e) c g = inl (
  e,
  subst (λ (es : List Entry). All (λ x. IsFirstOrigin x.origin) es) (sym same)
      (first_entries false name [] C c (subst (λ (k : ℕ). list_all (good (header_for false k name [])) C ≡ true) e g)),
)
saturation_known f name C b same places (inr e) c g = inr e

not_three : (f : ℕ) → (f ≡ 1) ⊎ (f ≡ 2) → nat_eq f 3 ≡ false
not_three f (inl e) = ap (λ (k : ℕ). nat_eq k 3) e
not_three f (inr e) = ap (λ (k : ℕ). nat_eq k 3) e

saturation_value : (f : ℕ) → (f ≡ 1) ⊎ (f ≡ 2) → (name : List ℕ) (is : List Item) → IsBody (header_for false f name []) is → IsOfValue (header_for false f name []) is
saturation_value f known name is b =
    let h = header_for false f name [] in
    let p = front 0 is b.sorted in
    let q = front 1 p.rest p.sorted in
    let r = front 2 q.rest q.sorted in
    let A = only 0 is in let B = only 1 p.rest in let C = only 2 q.rest in
    let a = only_ranks 0 is in let bb = only_ranks 1 p.rest in let c = only_ranks 2 q.rest in
    let gA = parts_good (good h) A p.rest (subst (λ (xs : List Item). list_all (good h) xs ≡ true) p.parts b.all_good) in
    let gB = parts_good (good h) B q.rest (subst (λ (xs : List Item). list_all (good h) xs ≡ true) q.parts gA.1) in
    let gC = parts_good (good h) C r.rest (subst (λ (xs : List Item). list_all (good h) xs ≡ true) r.parts gB.1) in
    let left = none_left h 2 (rank_of_saturation f name [] (not_three f known)) r.rest r.sorted gC.1 in
    let m = 2 ^ 64 in
    let f0 : (k : ℕ) → count k (A ++ p.rest) < m = (λ k. subst (λ (xs : List Item). count k xs < m) p.parts (b.few k)) in
    let f1 : (k : ℕ) → count k (B ++ q.rest) < m = (λ k. subst (λ (xs : List Item). count k xs < m) q.parts (behind_length m k A p.rest (f0 k))) in
    let f2 : (k : ℕ) → count k (C ++ r.rest) < m = (λ k. subst (λ (xs : List Item). count k xs < m) r.parts (behind_length m k B q.rest (f1 k))) in
    let nA = front_length m 0 A p.rest a (f0 0) in let nB = front_length m 1 B q.rest bb (f1 1) in let nC = front_length m 2 C r.rest c (f2 2) in
    let v : Saturation = record { base = record { inputs = clauses_of A; names = names_of A; axioms = clauses_of B; members = entries_of C }; places = places_of C } in
    record {
      value = saturation v;
      header = refl;
      items = ap₂ (λ (x y : List Item). x ++ y) (inputs_back A a) (ap₂ (λ (x y : List Item). x ++ y) (axioms_back B bb) (selected_back f name [] C c gC.0 ∙ sym (append-nil C) ∙ ap (λ (x : List Item). C ++ x) (sym left) ∙ sym r.parts) ∙ sym q.parts) ∙ sym p.parts;
      known = saturation_known f name C v.base refl v.places known c gC.0;
      printable = record {
        base = record {
          inputs = clauses_printable h A gA.0;
          named = length-map A (λ (i : Item). name_of i.note) ∙ sym (length-map A (λ (i : Item). i.clause));
          names = names_printable h A a gA.0;
          axioms = clauses_printable h B gB.0;
          members = entries_printable h C c gC.0;
          input_count = subst (λ (k : ℕ). k < m) (sym (length-map A (λ (i : Item). i.clause))) nA;
          axiom_count = subst (λ (k : ℕ). k < m) (sym (length-map B (λ (i : Item). i.clause))) nB;
          member_count = subst (λ (k : ℕ). k < m) (sym (length-map C (λ (i : Item). record { clause = i.clause; origin = entry_origin i.note }))) nC;
        };
        placed = length-map C (λ (i : Item). place_at i.note) ∙ sym (length-map C (λ (i : Item). record { clause = i.clause; origin = entry_origin i.note }));
        places = places_printable h C gC.0;
      };
    }

refutation_value : (name bot : List ℕ) (is : List Item) → is_readable_name bot ≡ true → IsBody (header_for true 1 name bot) is → IsOfValue (header_for true 1 name bot) is
refutation_value name bot is readable b =
    let h = header_for true 1 name bot in
    let p = front 0 is b.sorted in
    let q = front 1 p.rest p.sorted in
    let r = front 2 q.rest q.sorted in
    let s = front 3 r.rest r.sorted in
    let t = front 4 s.rest s.sorted in
    let A = only 0 is in let B = only 1 p.rest in let C = only 2 q.rest in let D = only 3 r.rest in let E = only 4 s.rest in
    let a = only_ranks 0 is in let bb = only_ranks 1 p.rest in let c = only_ranks 2 q.rest in let d = only_ranks 3 r.rest in let e = only_ranks 4 s.rest in
    let gA = parts_good (good h) A p.rest (subst (λ (xs : List Item). list_all (good h) xs ≡ true) p.parts b.all_good) in
    let gB = parts_good (good h) B q.rest (subst (λ (xs : List Item). list_all (good h) xs ≡ true) q.parts gA.1) in
    let gC = parts_good (good h) C r.rest (subst (λ (xs : List Item). list_all (good h) xs ≡ true) r.parts gB.1) in
    let gD = parts_good (good h) D s.rest (subst (λ (xs : List Item). list_all (good h) xs ≡ true) s.parts gC.1) in
    let gE = parts_good (good h) E t.rest (subst (λ (xs : List Item). list_all (good h) xs ≡ true) t.parts gD.1) in
    let left = none_left h 4 (rank_of_refutation 1 name bot) t.rest t.sorted gE.1 in
    let m = 2 ^ 64 in
    let f0 : (k : ℕ) → count k (A ++ p.rest) < m = (λ k. subst (λ (xs : List Item). count k xs < m) p.parts (b.few k)) in
    let f1 : (k : ℕ) → count k (B ++ q.rest) < m = (λ k. subst (λ (xs : List Item). count k xs < m) q.parts (behind_length m k A p.rest (f0 k))) in
    let f2 : (k : ℕ) → count k (C ++ r.rest) < m = (λ k. subst (λ (xs : List Item). count k xs < m) r.parts (behind_length m k B q.rest (f1 k))) in
    let f3 : (k : ℕ) → count k (D ++ s.rest) < m = (λ k. subst (λ (xs : List Item). count k xs < m) s.parts (behind_length m k C r.rest (f2 k))) in
    let f4 : (k : ℕ) → count k (E ++ t.rest) < m = (λ k. subst (λ (xs : List Item). count k xs < m) t.parts (behind_length m k D s.rest (f3 k))) in
    let nA = front_length m 0 A p.rest a (f0 0) in let nB = front_length m 1 B q.rest bb (f1 1) in let nC = front_length m 2 C r.rest c (f2 2) in let nD = front_length m 3 D s.rest d (f3 3) in let nE = front_length m 4 E t.rest e (f4 4) in
    let v : FirstRefutation = record {
      base = record { inputs = clauses_of A; names = names_of A; axioms = clauses_of B; members = entries_of C };
      bot = record { kind = Function; name = bot; arity = 0 };
      grounds = clauses_of D;
      steps = steps_of E;
    } in
    record {
      value = first_refutation v;
      header = refl;
      items = ap₂ (λ (x y : List Item). x ++ y) (inputs_back A a) (ap₂ (λ (x y : List Item). x ++ y) (axioms_back B bb) (ap₂ (λ (x y : List Item). x ++ y) (members_back 1 name bot C c gC.0) (ap₂ (λ (x y : List Item). x ++ y) (grounds_back name bot D d gD.0)
          (steps_back E e ∙ sym (append-nil E) ∙ ap (λ (x : List Item). E ++ x) (sym left) ∙ sym t.parts) ∙ sym s.parts) ∙ sym r.parts) ∙ sym q.parts) ∙ sym p.parts;
      known = (refl, first_entries true name bot C c gC.0);
      printable = record {
        base = record {
          inputs = clauses_printable h A gA.0;
          named = length-map A (λ (i : Item). name_of i.note) ∙ sym (length-map A (λ (i : Item). i.clause));
          names = names_printable h A a gA.0;
          axioms = clauses_printable h B gB.0;
          members = entries_printable h C c gC.0;
          input_count = subst (λ (k : ℕ). k < m) (sym (length-map A (λ (i : Item). i.clause))) nA;
          axiom_count = subst (λ (k : ℕ). k < m) (sym (length-map B (λ (i : Item). i.clause))) nB;
          member_count = subst (λ (k : ℕ). k < m) (sym (length-map C (λ (i : Item). record { clause = i.clause; origin = entry_origin i.note }))) nC;
        };
        constant = refl;
        bot_name = readable;
        grounds = clauses_printable h D gD.0;
        steps = steps_printable h E e gE.0;
        ground_count = subst (λ (k : ℕ). k < m) (sym (length-map D (λ (i : Item). i.clause))) nD;
        step_count = subst (λ (k : ℕ). k < m) (sym (length-map E (λ (i : Item). record { clause = i.clause; hints = hints_of i.note }))) nE;
      };
    }

lined_value : (f : ℕ) → (f ≡ 2) ⊎ (f ≡ 3) → (name bot : List ℕ) (is : List Item) → is_readable_name bot ≡ true → IsBody (header_for true f name bot) is → IsOfValue (header_for true f name bot) is
lined_value f known name bot is readable b =
    let h = header_for true f name bot in
    let p = front 0 is b.sorted in
    let q = front 1 p.rest p.sorted in
    let r = front 2 q.rest q.sorted in
    let s = front 3 r.rest r.sorted in
    let t = front 4 s.rest s.sorted in
    let A = only 0 is in let B = only 1 p.rest in let C = only 2 q.rest in let D = only 3 r.rest in let E = only 4 s.rest in
    let a = only_ranks 0 is in let bb = only_ranks 1 p.rest in let c = only_ranks 2 q.rest in let d = only_ranks 3 r.rest in let e = only_ranks 4 s.rest in
    let gA = parts_good (good h) A p.rest (subst (λ (xs : List Item). list_all (good h) xs ≡ true) p.parts b.all_good) in
    let gB = parts_good (good h) B q.rest (subst (λ (xs : List Item). list_all (good h) xs ≡ true) q.parts gA.1) in
    let gC = parts_good (good h) C r.rest (subst (λ (xs : List Item). list_all (good h) xs ≡ true) r.parts gB.1) in
    let gD = parts_good (good h) D s.rest (subst (λ (xs : List Item). list_all (good h) xs ≡ true) s.parts gC.1) in
    let gE = parts_good (good h) E t.rest (subst (λ (xs : List Item). list_all (good h) xs ≡ true) t.parts gD.1) in
    let left = none_left h 4 (rank_of_refutation f name bot) t.rest t.sorted gE.1 in
    let m = 2 ^ 64 in
    let f0 : (k : ℕ) → count k (A ++ p.rest) < m = (λ k. subst (λ (xs : List Item). count k xs < m) p.parts (b.few k)) in
    let f1 : (k : ℕ) → count k (B ++ q.rest) < m = (λ k. subst (λ (xs : List Item). count k xs < m) q.parts (behind_length m k A p.rest (f0 k))) in
    let f2 : (k : ℕ) → count k (C ++ r.rest) < m = (λ k. subst (λ (xs : List Item). count k xs < m) r.parts (behind_length m k B q.rest (f1 k))) in
    let f3 : (k : ℕ) → count k (D ++ s.rest) < m = (λ k. subst (λ (xs : List Item). count k xs < m) s.parts (behind_length m k C r.rest (f2 k))) in
    let f4 : (k : ℕ) → count k (E ++ t.rest) < m = (λ k. subst (λ (xs : List Item). count k xs < m) t.parts (behind_length m k D s.rest (f3 k))) in
    let nA = front_length m 0 A p.rest a (f0 0) in let nB = front_length m 1 B q.rest bb (f1 1) in let nC = front_length m 2 C r.rest c (f2 2) in let nD = front_length m 3 D s.rest d (f3 3) in let nE = front_length m 4 E t.rest e (f4 4) in
    let v : Refutation = record {
      base = record { inputs = clauses_of A; names = names_of A; axioms = clauses_of B; members = entries_of C };
      bot = record { kind = Function; name = bot; arity = 0 };
      grounds = lines_of_items D;
      steps = steps_of E;
    } in
    record {
      value = refutation v;
      header = refl;
      items = ap₂ (λ (x y : List Item). x ++ y) (inputs_back A a) (ap₂ (λ (x y : List Item). x ++ y) (axioms_back B bb) (ap₂ (λ (x y : List Item). x ++ y) (members_back f name bot C c gC.0) (ap₂ (λ (x y : List Item). x ++ y) (lines_back f name bot (later_two f known) D d gD.0)
          (steps_back E e ∙ sym (append-nil E) ∙ ap (λ (x : List Item). E ++ x) (sym left) ∙ sym t.parts) ∙ sym s.parts) ∙ sym r.parts) ∙ sym q.parts) ∙ sym p.parts;
      known = known;
      printable = record {
        base = record {
          inputs = clauses_printable h A gA.0;
          named = length-map A (λ (i : Item). name_of i.note) ∙ sym (length-map A (λ (i : Item). i.clause));
          names = names_printable h A a gA.0;
          axioms = clauses_printable h B gB.0;
          members = entries_printable h C c gC.0;
          input_count = subst (λ (k : ℕ). k < m) (sym (length-map A (λ (i : Item). i.clause))) nA;
          axiom_count = subst (λ (k : ℕ). k < m) (sym (length-map B (λ (i : Item). i.clause))) nB;
          member_count = subst (λ (k : ℕ). k < m) (sym (length-map C (λ (i : Item). record { clause = i.clause; origin = entry_origin i.note }))) nC;
        };
        constant = refl;
        bot_name = readable;
        grounds = lines_printable h D d gD.0;
        steps = steps_printable h E e gE.0;
        ground_count = subst (λ (k : ℕ). k < m) (sym (length-map D (λ (i : Item). record { clause = i.clause; input = input_of i.note; terms = terms_in i.note }))) nD;
        step_count = subst (λ (k : ℕ). k < m) (sym (length-map E (λ (i : Item). record { clause = i.clause; hints = hints_of i.note }))) nE;
      };
    }

covered_value : (name : List ℕ) (is : List Item) → IsBody (header_for false 3 name []) is → are_shown is ≡ true → IsOfValue (header_for false 3 name []) is
covered_value name is b complete =
    let h = header_for false 3 name [] in
    let p = front 0 is b.sorted in
    let q = front 1 p.rest p.sorted in
    let r = front 2 q.rest q.sorted in
    let A = only 0 is in let B = only 1 p.rest in let C = only 2 q.rest in
    let a = only_ranks 0 is in let bb = only_ranks 1 p.rest in let c = only_ranks 2 q.rest in
    let gA = parts_good (good h) A p.rest (subst (λ (xs : List Item). list_all (good h) xs ≡ true) p.parts b.all_good) in
    let gB = parts_good (good h) B q.rest (subst (λ (xs : List Item). list_all (good h) xs ≡ true) q.parts gA.1) in
    let gC = parts_good (good h) C r.rest (subst (λ (xs : List Item). list_all (good h) xs ≡ true) r.parts gB.1) in
    let s = front 5 r.rest (sorted_behind 3 name [] r.rest r.sorted gC.1) in
    let t = front 6 s.rest s.sorted in
    let D = only 5 r.rest in let E = only 6 s.rest in
    let d = only_ranks 5 r.rest in let e = only_ranks 6 s.rest in
    let gD = parts_good (good h) D s.rest (subst (λ (xs : List Item). list_all (good h) xs ≡ true) s.parts gC.1) in
    let gE = parts_good (good h) E t.rest (subst (λ (xs : List Item). list_all (good h) xs ≡ true) t.parts gD.1) in
    let left = none_left h 6 (λ note k. rank_of_covered note) t.rest t.sorted gE.1 in
    let m = 2 ^ 64 in
    let f0 : (k : ℕ) → count k (A ++ p.rest) < m = (λ k. subst (λ (xs : List Item). count k xs < m) p.parts (b.few k)) in
    let f1 : (k : ℕ) → count k (B ++ q.rest) < m = (λ k. subst (λ (xs : List Item). count k xs < m) q.parts (behind_length m k A p.rest (f0 k))) in
    let f2 : (k : ℕ) → count k (C ++ r.rest) < m = (λ k. subst (λ (xs : List Item). count k xs < m) r.parts (behind_length m k B q.rest (f1 k))) in
    let f3 : (k : ℕ) → count k (D ++ s.rest) < m = (λ k. subst (λ (xs : List Item). count k xs < m) s.parts (behind_length m k C r.rest (f2 k))) in
    let f4 : (k : ℕ) → count k (E ++ t.rest) < m = (λ k. subst (λ (xs : List Item). count k xs < m) t.parts (behind_length m k D s.rest (f3 k))) in
    let nA = front_length m 0 A p.rest a (f0 0) in let nB = front_length m 1 B q.rest bb (f1 1) in let nC = front_length m 2 C r.rest c (f2 2) in let nD = front_length m 5 D s.rest d (f3 5) in let nE = front_length m 6 E t.rest e (f4 6) in
    let last : E ≡ s.rest = sym (append-nil E) ∙ ap (λ (x : List Item). E ++ x) (sym left) ∙ sym t.parts in
    let groups : A ++ (B ++ (C ++ (D ++ E))) ≡ is
    = ap (λ (x : List Item). A ++ x) (ap (λ (x : List Item). B ++ x) (ap (λ (x : List Item). C ++ x) (ap (λ (x : List Item). D ++ x) last ∙ sym s.parts) ∙ sym r.parts) ∙ sym q.parts) ∙ sym p.parts in
    let inputs = clauses_of A in
    let axioms = clauses_of B in
    let base_is : base_clauses (A ++ (B ++ (C ++ (D ++ E)))) ≡ inputs ++ axioms
    = base_append A _ ∙ ap₂ (λ (x y : List TreeClause). x ++ y) (base_own 0 refl A a)
    (base_append B _ ∙ ap₂ (λ (x y : List TreeClause). x ++ y) (base_own 1 refl B bb)
    (base_append C _ ∙ ap₂ (λ (x y : List TreeClause). x ++ y) (base_other 2 refl C c)
    (base_append D E ∙ ap₂ (λ (x y : List TreeClause). x ++ y) (base_other 5 refl D d) (base_other 6 refl E e))) ∙ append-nil axioms) in
    let shown_is : shown_clauses (A ++ (B ++ (C ++ (D ++ E)))) ≡ clauses_of D
    = shown_append A _ ∙ ap₂ (λ (x y : List TreeClause). x ++ y) (shown_other 0 refl A a)
    (shown_append B _ ∙ ap₂ (λ (x y : List TreeClause). x ++ y) (shown_other 1 refl B bb)
    (shown_append C _ ∙ ap₂ (λ (x y : List TreeClause). x ++ y) (shown_other 2 refl C c)
    (shown_append D E ∙ ap₂ (λ (x y : List TreeClause). x ++ y) (shown_own D d) (shown_other 6 refl E e) ∙ append-nil (clauses_of D)))) in
    let (rest, z) = b.shown refl in
    let all : base_clauses is ≡ shown_clauses is = z.parts ∙ ap (λ (x : List TreeClause). shown_clauses is ++ x) (all_shown clause_is_printable is rest z complete) ∙ append-nil (shown_clauses is) in
    let same : clauses_of D ≡ inputs ++ axioms = sym shown_is ∙ ap shown_clauses groups ∙ sym all ∙ sym (ap base_clauses groups) ∙ base_is in
    let bys = bys_of D in
    let v : Covered = record {
      saturation = record { base = record { inputs = inputs; names = names_of A; axioms = axioms; members = entries_of C }; places = places_of C };
      shown = bys;
      covers = covers_of E;
    } in
    let each : length bys ≡ length inputs + length axioms = length-map D (λ (i : Item). by_in i.note) ∙ sym (length-map D (λ (i : Item). i.clause)) ∙ ap length same ∙ length-append inputs axioms in
    record {
      value = covered v;
      header = refl;
      items = ap₂ (λ (x y : List Item). x ++ y) (inputs_back A a) (ap₂ (λ (x y : List Item). x ++ y) (axioms_back B bb) (ap₂ (λ (x y : List Item). x ++ y) (selected_back 3 name [] C c gC.0)
          (ap₂ (λ (x y : List Item). x ++ y) (ap (λ (cs : List TreeClause). shown_items cs bys) (sym same) ∙ shown_back D d) (covers_back E e)))) ∙ groups;
      known = refl;
      printable = record {
        saturation = record {
          base = record {
            inputs = clauses_printable h A gA.0;
            named = length-map A (λ (i : Item). name_of i.note) ∙ sym (length-map A (λ (i : Item). i.clause));
            names = names_printable h A a gA.0;
            axioms = clauses_printable h B gB.0;
            members = entries_printable h C c gC.0;
            input_count = subst (λ (k : ℕ). k < m) (sym (length-map A (λ (i : Item). i.clause))) nA;
            axiom_count = subst (λ (k : ℕ). k < m) (sym (length-map B (λ (i : Item). i.clause))) nB;
            member_count = subst (λ (k : ℕ). k < m) (sym (length-map C (λ (i : Item). record { clause = i.clause; origin = entry_origin i.note }))) nC;
          };
          placed = length-map C (λ (i : Item). place_at i.note) ∙ sym (length-map C (λ (i : Item). record { clause = i.clause; origin = entry_origin i.note }));
          places = places_printable h C gC.0;
        };
        each = each;
        shown = bys_printable h D d gD.0;
        covers = covers_printable h E e gE.0;
        shown_count = subst (λ (k : ℕ). k < m) (sym (length-map D (λ (i : Item). by_in i.note))) nD;
        cover_count = subst (λ (k : ℕ). k < m) (sym (length-map E (λ (i : Item). record { left = left_in i.note; right = right_in i.note; side = side_in i.note; clause = i.clause; by = by_in i.note }))) nE;
      };
    }

-- ---- the tie

name_byte : (b : ℕ) → is_name_byte b ≡ true → (32 ≤ b) × (b ≢ 127)
name_byte b h =
    let a = and_parts (nat_le 32 b) (not (nat_eq b 127)) h in
    (at_most 32 b a.0, λ e. (let k : not (nat_eq b 127) ≡ false = ap (λ (j : ℕ). not (nat_eq j 127)) e in cc))

name_bytes : (n : List ℕ) → list_all is_name_byte n ≡ true → All (λ b. (32 ≤ b) × (b ≢ 127)) n
name_bytes [] h = All-nil (λ (b : ℕ). (32 ≤ b) × (b ≢ 127))
name_bytes (b ∷ n) h = let a = and_parts (is_name_byte b) _ h in All-cons (λ (x : ℕ). (32 ≤ x) × (x ≢ 127)) b n (name_byte b a.0) (name_bytes n a.1)

text_name : (n : List ℕ) → is_text_name n ≡ true → IsTextName n
text_name n h =
    let a = and_parts (nat_lt 0 (length n)) _ h in
    let b = and_parts (nat_le (length n) 4096) (list_all is_name_byte n) a.1 in
    record { some = is_less 0 (length n) a.0; short = at_most (length n) 4096 b.0; bytes = name_bytes n b.1 }

-- the lines are those of a printable value
pub record AreOfValue (ls : List Line) : Type 0 where
  pub format : ℕ
  pub name : List ℕ
  pub value : Certificate
  pub name_is : IsTextName name
  pub known : HasFormat format value
  pub printable : IsWritable value
  pub are : ls ≡ lines_of format name value

lines_end : (h : Header) (v : Certificate) (is : List Item) → items_of v ≡ is → item_lines [] is ++ closing h.refutation h.name ∷ [] ≡ item_lines [] (items_of v) ++ closing h.refutation h.name ∷ []
lines_end h v is f = ap (λ (xs : List Item). item_lines [] xs ++ closing h.refutation h.name ∷ []) (sym f)

pub saturated_lines : (f : ℕ) → is_known f ≡ true → (name : List ℕ) (ls : List Line) → is_text_name name ≡ true → IsFinished (header_for false f name []) [] ls → AreOfValue (status false name ∷ opening false name ∷ version f ∷ ls)
saturated_lines f read name ls n w = by (value (read_format f read))
  where
    value : (f ≡ 1) ⊎ (f ≡ 2) ⊎ (f ≡ 3) → IsOfValue (header_for false f name []) w.items
    value (inl e) = saturation_value f (inl e) name w.items w.is_body
    value (inr (inl e)) = saturation_value f (inr e) name w.items w.is_body
    value (inr (inr e)) =
        subst (λ (k : ℕ). IsOfValue (header_for false k name []) w.items) (sym e)
        (covered_value name w.items (subst (λ (k : ℕ). IsBody (header_for false k name []) w.items) e w.is_body)
        (asked true (are_shown w.items) refl (subst (λ (k : ℕ). is_complete (header_for false k name []) w.items ≡ true) e w.complete)))

    go : (v : Certificate) → header_of f name v ≡ header_for false f name [] → items_of v ≡ w.items → HasFormat f v → IsWritable v → AreOfValue (status false name ∷ opening false name ∷ version f ∷ ls)
    go (saturation c) e i k p = record { format = f; name = name; value = saturation c; name_is = text_name name n; known = k; printable = p; are = ap (λ (ms : List Line). status false name ∷ opening false name ∷ version f ∷ ms) (w.are ∙ lines_end (header_for false f name []) (saturation c) w.items i) }
    go (covered c) e i k p = record { format = f; name = name; value = covered c; name_is = text_name name n; known = k; printable = p; are = ap (λ (ms : List Line). status false name ∷ opening false name ∷ version f ∷ ms) (w.are ∙ lines_end (header_for false f name []) (covered c) w.items i) }
    go (first_refutation c) e i k p = absurd (let z = ap (λ (h : Header). h.refutation) e in cc)
    go (refutation c) e i k p = absurd (let z = ap (λ (h : Header). h.refutation) e in cc)

    by : IsOfValue (header_for false f name []) w.items → AreOfValue (status false name ∷ opening false name ∷ version f ∷ ls)
    by v = go v.value v.header v.items v.known v.printable

pub refuted_lines : (f : ℕ) → is_known f ≡ true → (name bot : List ℕ) (ls : List Line) → is_text_name name ≡ true → is_readable_name bot ≡ true → IsFinished (header_for true f name bot) [] ls
    → AreOfValue (status true name ∷ opening true name ∷ version f ∷ constant bot ∷ ls)
refuted_lines f read name bot ls n r w = by (value (read_format f read))
  where
    value : (f ≡ 1) ⊎ (f ≡ 2) ⊎ (f ≡ 3) → IsOfValue (header_for true f name bot) w.items
    value (inl e) = subst (λ (k : ℕ). IsOfValue (header_for true k name bot) w.items) (sym e) (refutation_value name bot w.items r (subst (λ (k : ℕ). IsBody (header_for true k name bot) w.items) e w.is_body))
    value (inr (inl e)) = lined_value f (inl e) name bot w.items r w.is_body
    value (inr (inr e)) = lined_value f (inr e) name bot w.items r w.is_body

    are : (b : List ℕ) (v : Certificate) → b ≡ bot → items_of v ≡ w.items → status true name ∷ opening true name ∷ version f ∷ constant bot ∷ ls ≡ status true name ∷ opening true name ∷ version f ∷ constant b ∷ (item_lines [] (items_of v) ++ closing true name ∷ [])
    are b v e i = ap₂ (λ (x : List ℕ) (ms : List Line). status true name ∷ opening true name ∷ version f ∷ constant x ∷ ms) (sym e) (w.are ∙ lines_end (header_for true f name bot) v w.items i)

    go : (v : Certificate) → header_of f name v ≡ header_for true f name bot → items_of v ≡ w.items → HasFormat f v → IsWritable v → AreOfValue (status true name ∷ opening true name ∷ version f ∷ constant bot ∷ ls)
    go (first_refutation c) e i k p = record { format = f; name = name; value = first_refutation c; name_is = text_name name n; known = k; printable = p; are = are c.bot.name (first_refutation c) (ap (λ (h : Header). h.bot) e) i }
    go (refutation c) e i k p = record { format = f; name = name; value = refutation c; name_is = text_name name n; known = k; printable = p; are = are c.bot.name (refutation c) (ap (λ (h : Header). h.bot) e) i }
    go (saturation c) e i k p = absurd (let z = ap (λ (h : Header). h.refutation) e in cc)
    go (covered c) e i k p = absurd (let z = ap (λ (h : Header). h.refutation) e in cc)

    by : IsOfValue (header_for true f name bot) w.items → AreOfValue (status true name ∷ opening true name ∷ version f ∷ constant bot ∷ ls)
    by v = go v.value v.header v.items v.known v.printable
