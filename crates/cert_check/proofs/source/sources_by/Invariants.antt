use Rattle.cert_values.specs.Values.{base_of}
use Rattle.cert_values.specs.Wholes.{IsWholeBase, KeepsBase}
use Rattle.cert_check.specs.Sources.{AreSources}
use Rattle.cert_check.proofs.source.sources_by.Given as goal

abbrev pub invariant-loop-i : goal.invariant-loop-i
invariant-loop-i l = record {
  kept : KeepsBase l.fn.base l.base;
  whole : IsWholeBase l.base;
  sources : AreSources l.base.bank (base_of l.fn.base) l.i l.sources.items;
}
