-- The certificates that values over a bank stand for.
use Rattle.std.specs.Prelude.{map}
use Rattle.term_bank.specs.Forest.{Forest, clause_at, tree_at}
use Rattle.inst_calculus.specs.Entries as entries
use Rattle.inst_calculus.specs.Steps as steps
use Rattle.inst_logic.specs.Tree.{Tree}
use Rattle.cert_format.specs.Certificate as format
use Rattle.cert_values.specs.declared.member.Origin.{Origin}
use Rattle.cert_values.specs.declared.member.Origin.TheVariants.{Input, Inst, Lemma}
use Rattle.cert_values.specs.declared.member.Member.{Member}
use Rattle.cert_values.specs.declared.certificate.Base.{Base}
use Rattle.cert_values.specs.declared.certificate.GroundHint.{GroundHint}
use Rattle.cert_values.specs.declared.certificate.GroundHint.TheVariants.{Ground, Step}
use Rattle.cert_values.specs.declared.certificate.GroundStep.{GroundStep}
use Rattle.cert_values.specs.declared.certificate.FirstRefutation.{FirstRefutation}
use Rattle.cert_values.specs.declared.certificate.GroundLine.{GroundLine}
use Rattle.cert_values.specs.declared.certificate.Refutation.{Refutation}
use Rattle.cert_values.specs.declared.certificate.Saturation.{Saturation}
use Rattle.cert_values.specs.declared.certificate.By.{By}
use Rattle.cert_values.specs.declared.certificate.By.TheVariants.{Tautology, Variant, Part}
use Rattle.cert_values.specs.declared.certificate.Cover.{Cover}
use Rattle.cert_values.specs.declared.certificate.Covered.{Covered}
use Rattle.unify_core.specs.declared.side.Side.{Side}
use Rattle.unify_core.specs.declared.side.Side.TheVariants.{Left, Right}

abbrev pub origin_of : Origin → entries.Origin
origin_of (Input k) = entries.input k
origin_of (Inst from place partner other) = entries.inst from place partner other
origin_of (Lemma from place partner other keep premises) = entries.lemma from place partner other keep premises

abbrev pub entry_of : Forest → Member → entries.Entry
entry_of f m = record { clause = clause_at f m.clause; origin = origin_of m.origin }

abbrev pub base_of : Base → format.Base
base_of b = record {
  inputs = map (clause_at b.bank) b.inputs;
  names = b.names;
  axioms = map (clause_at b.bank) b.axioms;
  members = map (entry_of b.bank) b.members;
}

abbrev pub hint_of : GroundHint → steps.Cited
hint_of (Ground n) = steps.given n
hint_of (Step n) = steps.earlier n

abbrev pub step_of : Forest → GroundStep → steps.Step Tree
step_of f s = record { clause = clause_at f s.clause; hints = map hint_of s.hints }

abbrev pub first_of : FirstRefutation → format.FirstRefutation
first_of r = record {
  base = base_of r.base;
  bot = r.bot;
  grounds = map (clause_at r.base.bank) r.grounds;
  steps = map (step_of r.base.bank) r.steps;
}

abbrev pub line_of : Forest → GroundLine → format.GroundLine
line_of f g = record { clause = clause_at f g.clause; input = g.input; terms = map (tree_at f) g.terms }

abbrev pub refutation_of : Refutation → format.Refutation
refutation_of r = record {
  base = base_of r.base;
  bot = r.bot;
  grounds = map (line_of r.base.bank) r.grounds;
  steps = map (step_of r.base.bank) r.steps;
}

abbrev pub saturation_of : Saturation → format.Saturation
saturation_of s = record { base = base_of s.base; places = s.places }

abbrev pub by_of : Forest → By → format.By
by_of f Tautology = format.by_tautology
by_of f (Variant n) = format.by_variant n
by_of f (Part n terms) = format.by_part n (map (tree_at f) terms)

abbrev pub side_of : Side → format.Side
side_of Left = format.left_side
side_of Right = format.right_side

abbrev pub cover_of : Forest → Cover → format.Cover
cover_of f v = record { left = v.left; right = v.right; side = side_of v.side; clause = clause_at f v.clause; by = by_of f v.by }

abbrev pub covered_of : Covered → format.Covered
covered_of c = record {
  saturation = saturation_of c.cert;
  shown = map (by_of c.cert.base.bank) c.shown;
  covers = map (cover_of c.cert.base.bank) c.covers;
}
