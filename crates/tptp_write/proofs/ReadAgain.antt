-- What is printed is read again.
use Rattle.std.proofs.Common.{◌≡◌, ℕ, true, false, List, [], ◌∷◌, drop, refl, sym, ap, subst}
use Rattle.std.specs.Prelude.{codes}
use Rattle.std.specs.List.{list_all}
use Rattle.inst_logic.specs.Clauses.{TreeClause}
use Rattle.inst_logic.specs.Printing.{clause_text}
use Rattle.tptp_read.specs.Skipped.{nothing}
use Rattle.tptp_read.specs.Stream.{Tok}
use Rattle.tptp_read.specs.declared.statement.Role.TheVariants.{Axiom}
use Rattle.tptp_read.specs.declared.statement.Statement.TheVariants.{Cnf}
use Rattle.tptp_read.specs.Lexemes.{Begins, lower}
use Rattle.tptp_read.specs.Grammar.{form, simple}
use Rattle.tptp_read.specs.Rules.{is_language, IsNoOtherLanguage, stops_last}
use Rattle.tptp_read.specs.Text.{Readable}
use Rattle.tptp_read.proofs.AllTokens.{same_next}
use Rattle.tptp_write.specs.Again.{CanBeRead, as_statement, IsReadAgain}
use Rattle.tptp_write.proofs.Written.{simple_of, items_of, form_of, good_literal}
use Rattle.tptp_write.proofs.Tokens.{both_true}
use Rattle.tptp_write.proofs.Spelled.{statement_begins}
use Rattle.tptp_write.proofs.Nested.{is_flat}
use Rattle.tptp_write.proofs.Stops.{statement_stops}
use Rattle.tptp_write.proofs.Judged.{is_good, form_judged, all_fit, fits}
use Rattle.inst_logic.proofs.Booleans.{true_is}

stops : (c : TreeClause) → list_all good_literal c ≡ true → stops_last (form (form_of c)) ≡ true
stops [] g = refl
stops (l ∷ ls) g =
    let all = all_fit (l ∷ ls) g in
    let b = both_true _ _ all in
    statement_stops (lower (codes "a")) (lower (codes "axiom")) (simple (simple_of l)) (items_of ls) refl refl b.0 b.1

first_language : (text rest : List ℕ) (ts : List Tok) → Begins text (lower (codes "cnf") ∷ ts) rest → IsNoOtherLanguage text
first_language text rest ts b w h =
    let same = (same_next text (lower (codes "cnf")) (lower w) b.0 h.behind b.1 h.word).0 in
    let word : codes "cnf" ≡ w = ap (λ (t : Tok). t.text) same in
    let bad : is_language (codes "cnf") ≡ true = subst (λ (x : List ℕ). is_language x ≡ true) (sym word) h.is_name in
    cc

no_language : (c : TreeClause) → Begins (as_statement (clause_text c)) (form (form_of c)) [] → IsNoOtherLanguage (as_statement (clause_text c))
no_language [] b = first_language (as_statement (clause_text [])) [] (drop 1 (form (form_of []))) b
no_language (l ∷ ls) b = first_language (as_statement (clause_text (l ∷ ls))) [] (drop 1 (form (form_of (l ∷ ls)))) b

-- a clause within the limits of the reader is read as it was printed
pub is_read_again : (c : TreeClause) → CanBeRead c → Readable (as_statement (clause_text c)) (Cnf (codes "a") Axiom false c ∷ [])
is_read_again c h =
    let good = is_good c h in
    let begins = statement_begins c good in (
      [],
      record {
        language = no_language c begins;
        tokens = form (form_of c);
        front = record { begins = begins; stops = true_is (stops_last (form (form_of c))) (stops c good) };
        flat = is_flat c good h.nesting;
        form = form_of c;
        is_form = record { spelled = refl; fits = fits c good };
        value = form_judged c h;
      },
      nothing [] [] refl,
    )

pub text_read_again : (text : List ℕ) (c : TreeClause) → text ≡ clause_text c → CanBeRead c → IsReadAgain text c
text_read_again text c e h = subst (λ (x : List ℕ). IsReadAgain x c) (sym e) (is_read_again c h)
