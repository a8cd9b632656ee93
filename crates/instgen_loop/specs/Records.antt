-- How the entries of a run were made, over its bank.
use Rattle.std.specs.Prelude.{◌≡◌, ℕ, List, map, Some}
use Rattle.inst_logic.specs.declared.symbol.Sym.{Sym}
use Rattle.inst_logic.specs.Clauses.{TreeClause}
use Rattle.inst_logic.specs.Derivations.{at_number}
use Rattle.inst_calculus.specs.Conclusions.{IsConclusion, IsPartOfConclusion}
use Rattle.inst_calculus.specs.Entries.{Entry}
use Rattle.inst_calculus.specs.Unrolling.{TellsHow}
use Rattle.term_bank.specs.Forest.{Forest, AreIds, clause_at}
use Rattle.clause_form.specs.Conclusions.{AreTermIds}
use Rattle.global_subs.specs.declared.made.Made.{Made}
use Rattle.global_subs.specs.Unrolls.{how_at, terms_of}
use Rattle.cert_values.specs.declared.member.Origin.{Origin}
use Rattle.cert_values.specs.declared.member.Origin.TheVariants.{Input, Inst, Lemma}
use Rattle.cert_values.specs.Values.{origin_of}
use Rattle.instgen_run.specs.Clauses.{Item, entries_in}

-- an origin that names two entries names a conclusion of them, or a part of one, which is the clause
abbrev pub IsConcluded : List Entry → Origin → TreeClause → Type 0
IsConcluded es (Input k) c = Unit {0}
IsConcluded es (Inst from place partner other) c = IsConclusion es from place partner other c
IsConcluded es (Lemma from place partner other keep premises) c = IsPartOfConclusion es from place partner other keep c

abbrev pub AreConcluded : Forest → List Item → Type 0
AreConcluded f es = (n : ℕ) (e : Item) → at_number es n ≡ Some e → IsConcluded (entries_in f es) e.1 (clause_at f e.0)

-- it is entry n, and tells how that was made
pub record IsRecord (bot : Sym) (f : Forest) (es : List Item) (n : ℕ) (m : Made) : Type 0 where
  pub item : Item
  pub item_at : at_number es n ≡ Some item
  pub clause : m.clause ≡ item.0
  pub ids : AreIds f (terms_of m.how)
  pub terms : AreTermIds f (terms_of m.how)
  pub told : TellsHow bot (entries_in f es) (origin_of item.1) (clause_at f item.0) (how_at f m.how)

pub record AreRecordsOf (bot : Sym) (f : Forest) (es : List Item) (made : List Made) : Type 0 where
  pub clauses : map (λ m. m.clause) made ≡ map (λ e. e.0) es
  pub each : (n : ℕ) (m : Made) → at_number made n ≡ Some m → IsRecord bot f es n m
