use Rattle.std.proofs.Common.{◌≡◌, ◌∙◌, ◌++◌, ap, sym, arith, length, slice_range, List}
use Rattle.cert_values.specs.declared.member.Origin.{Origin}
use Rattle.instgen_run.specs.Marks.{inferred, origins_of}
use Rattle.instgen_run.proofs.Logged.{origins_count, range_to_end}
use Rattle.instgen_run.proofs.event_log.add_rest.Goals as goal

pub add_entries-requires : goal.add_entries-requires
add_entries-requires c = let l = origins_count c.args.clauses.now.entries in (omega (arith, c.requires, c.len-count.ensures.len, l), omega (arith, c.len-count.ensures.len, l))

pub returns : goal.returns
returns c =
    let os = origins_of c.args.clauses.now.entries in
    let all : c.len-count.result ≡ length os = c.len-count.ensures.len ∙ sym (origins_count c.args.clauses.now.entries) in
    c.in_ok-add_entries.ensures ∙ ap (λ (xs : List Origin). c.args.events.now.items ++ inferred xs) (ap (slice_range os c.args.done) all ∙ range_to_end os c.args.done c.requires)
