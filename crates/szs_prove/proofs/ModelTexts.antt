-- What the parts of the command for models say of the whole.
use Rattle.std.proofs.Common.{◌≡◌, ◌++◌, ◌<◌, ◌≤◌, ◌^◌, inl, inr, ℕ, List, Option, length, ap, ◌∙◌, subst as transport, arith}
use Rattle.std.specs.Prelude.{All, Any, IfOk, IsTrue, Result, Ok, Err}
use Rattle.std.proofs.lemmas.List.Elements.{All-weaker}
use Rattle.inst_logic.specs.declared.clause.Problem.{Problem}
use Rattle.inst_logic.specs.Clauses.{TreeClause, IsCanonical, IsGround, IsInstance}
use Rattle.inst_logic.specs.Printing.{is_readable_name}
use Rattle.inst_logic.specs.Readable.{clause_is_readable}
use Rattle.inst_logic.specs.WellFormed.{clause_is_formed}
use Rattle.inst_logic.proofs.Membership.{all_in, in_all, passes}
use Rattle.outside_io.specs.declared.library.NamedFile.{NamedFile}
use Rattle.tptp_load.specs.Problems.{IsGoodProblem}
use Rattle.cert_format.specs.Certificate.{line_clauses}
use Rattle.cert_format.specs.Printable.{IsPrintableClause, IsPrintableProblem}
use Rattle.cert_format.specs.Text.{written_text}
use Rattle.cert_values.specs.declared.certificate.Refutation.{Refutation}
use Rattle.cert_values.specs.declared.certificate.Covered.{Covered}
use Rattle.cert_values.specs.Values.{refutation_of}
use Rattle.cert_front.specs.Kinds.{covered_value, refutation_value}
use Rattle.finite_model.specs.declared.tables.Table.{Table}
use Rattle.finite_model.specs.declared.tables.Tables.{Tables}
use Rattle.finite_model.specs.Tables.{IsModel, IsTable, IsTooWide}
use Rattle.finite_model.specs.Flattening.{flattened, flattened_names}
use Rattle.finite_model.proofs.CellCounts.{few_symbols}
use Rattle.finite_model.proofs.FlatForm.{flattened_canonical, flattened_formed, flattened_readable, flattened_without_axioms, names_count, names_readable}
use Rattle.finite_model.proofs.NoModel.{not_refuted}
use Rattle.szs_prove.specs.Answers.{IsProblemOf}
use Rattle.szs_prove.specs.Decisions.{IsDecision, IsShownBy}
use Rattle.szs_prove.specs.ModelAnswers.{HasModelAnswer, IsModelText, IsNoTablesText, IsTablesText, flattened_problem}
use Rattle.szs_prove.specs.TableTexts.{no_tables_line, tables_text}
use Rattle.szs_prove.specs.declared.decision.Decision.{Decision}
use Rattle.szs_prove.specs.declared.decision.Decision.TheVariants.{Unsatisfiable, Satisfiable}

-- ---- the flattened form

-- the problem with these clauses and names is the flattened form
pub is_flattened : (k : ℕ) (p q : Problem) → q.clauses ≡ flattened k p.clauses → q.names ≡ flattened_names k p.clauses p.names → q ≡ flattened_problem k p
is_flattened k p q clauses names = λ i. record { clauses = clauses i; names = names i }

pub flattened_printable : (k : ℕ) (p : Problem) → IsGoodProblem p → 0 < k → k < 2 ^ 64 → ¬ IsTooWide k p.clauses → IsPrintableProblem (flattened_problem k p)
flattened_printable k p good some small narrow =
    let few = few_symbols k p.clauses some narrow in
    record {
      clauses = in_all IsPrintableClause (flattened k p.clauses) (λ c i. record {
        formed = passes clause_is_formed (flattened k p.clauses) (flattened_formed k p.clauses good.formed) c i;
        canonical = all_in IsCanonical (flattened k p.clauses) (flattened_canonical k p.clauses) c i;
        readable = all_in (λ d. IsTrue (clause_is_readable d)) (flattened k p.clauses) (flattened_readable k p.clauses small few.0 few.1 good.formed) c i;
      });
      named = names_count k p.clauses p.names good.named;
      readable = names_readable k p.clauses p.names few.0 (in_all (λ n. IsTrue (is_readable_name n)) p.names (λ n i. passes is_readable_name p.names good.names n i));
    }

-- ---- the two texts

-- each table has a cell for each list of arguments
pub tables_full : (k : ℕ) (entry : ℕ → Type 0) (ts : List Table) → All (IsTable k entry) ts → All (λ t. length t.cells ≡ k ^ t.sym.arity) ts
tables_full k entry ts h = All-weaker (IsTable k entry) (λ (t : Table). length t.cells ≡ k ^ t.sym.arity) (λ t w. w.size) ts h

pub told_tables : (k : ℕ) (file : List ℕ) (p : Problem) (ts : Tables) → IsModel k p.clauses ts → {E : Type 0} (r : Result (List ℕ) E) → IfOk r (λ text. text ≡ tables_text k file ts) → IfOk r (IsTablesText k file p)
told_tables k file p ts model (Ok text) is = record { tables = ts; model = model; is = is }
told_tables k file p ts model (Err e) is = tt

pub none_where_refuted : (k : ℕ) (p : Problem) → 0 < k → k ≤ 64 → IsGoodProblem p → ¬ IsTooWide k p.clauses → (c : Refutation) → IsShownBy (flattened_problem k p) (refutation_value c)
    → (ts : Tables) → ¬ IsModel k p.clauses ts
none_where_refuted k p some few good narrow c shown ts model =
    let count = few_symbols k p.clauses some narrow in
    let small : k < 2 ^ 64 = omega arith in
    let grounds : List TreeClause = line_clauses (refutation_of c).grounds in
    not_refuted k p.clauses ts some small count.0 count.1 good.formed model grounds
    (transport (λ (cs : List TreeClause). All (λ g. IsGround g × Any (IsInstance g) cs) grounds) (flattened_without_axioms k p.clauses good.formed) shown.certifies.shows.instances)
    shown.certifies.shows.refuted

pub told_none : (k : ℕ) (file : List ℕ) (p : Problem) → 0 < k → k ≤ 64 → IsGoodProblem p → ¬ IsTooWide k p.clauses → (c : Refutation) → IsShownBy (flattened_problem k p) (refutation_value c)
    → (refuted : List ℕ) → refuted ≡ written_text file (refutation_value c)
    → {E : Type 0} (r : Result (List ℕ) E) → IfOk r (λ text. text ≡ no_tables_line k file ++ refuted) → IfOk r (IsNoTablesText k file p)
told_none k file p some few good narrow c shown refuted same (Ok text) is = record {
  none = none_where_refuted k p some few good narrow c shown;
  found = refutation_of c;
  shown = shown;
  is = is ∙ ap (λ (t : List ℕ). no_tables_line k file ++ t) same;
}
told_none k file p some few good narrow c shown refuted same (Err e) is = tt

-- ---- what was decided

module _ (k : ℕ) (file : List ℕ) (p : Problem) (narrow : ¬ IsTooWide k p.clauses) where
  pub text_with_tables : {E : Type 0} (r : Result (List ℕ) E) → IfOk r (IsTablesText k file p) → IfOk r (IsModelText k file p)
  text_with_tables (Ok text) h = record { narrow = narrow; said = inl h }
  text_with_tables (Err e) h = tt

  pub text_without : {E : Type 0} (r : Result (List ℕ) E) → IfOk r (IsNoTablesText k file p) → IfOk r (IsModelText k file p)
  text_without (Ok text) h = record { narrow = narrow; said = inr h }
  text_without (Err e) h = tt

pub shown_refuted : (q : Problem) (c : Refutation) (d : Decision) → IsDecision q 0 d → d ≡ Unsatisfiable c → IsShownBy q (refutation_value c)
shown_refuted q c d h is = transport (IsDecision q 0) is h

pub shown_satisfied : (q : Problem) (c : Covered) (d : Decision) → IsDecision q 0 d → d ≡ Satisfiable c → IsShownBy q (covered_value c)
shown_satisfied q c d h is = transport (IsDecision q 0) is h

-- ---- the problem of a file

pub all_texts : {E : Type 0} (files : Option (List NamedFile)) (k : ℕ) (file : List ℕ) (root : Option (List ℕ)) (p : Problem) → IsProblemOf files file root p
    → (r : Result (List ℕ) E) → IfOk r (IsModelText k file p) → IfOk r (HasModelAnswer files k file root)
all_texts files k file root p is (Ok text) h = (p, is, h)
all_texts files k file root p is (Err e) h = tt
