use Rattle.std.proofs.Common.{◌≡◌, ◌∙◌, sym, ap, true, false}
use Rattle.std.proofs.lemmas.Result.{IfOk-weaker, on_ok_weaker}
use Rattle.std.specs.Prelude.{option_copied}
use Rattle.std.proofs.lemmas.Option.{slice_get_within}
use Rattle.cert_values.proofs.Kept.{covered_whole}
use Rattle.cert_check.proofs.CompareLaws.{cover_none, cover_other, cover_same, whole_cover_at}
use Rattle.cert_check.proofs.MadeLaws.{made_named}
use Rattle.cert_index.proofs.PlaceLaws.{no_place}
use Rattle.cert_check.proofs.compare.is_right_cover.Goals as goal

pub returns-in_default-clause-right : goal.returns-in_default-clause-right
returns-in_default-clause-right c = cover_none c.args.cert.now c.args.rooms.now.bindings.entries c.args.due c.args.place (sym c.get.ensures ∙ ap option_copied (no_place c.get.result c.in_default.not-Some))

pub returns-then-not-is_of-clause-right : goal.returns-then-not-is_of-clause-right
returns-then-not-is_of-clause-right c =
    cover_other c.args.cert.now c.args.rooms.now.bindings.entries c.args.due c.args.place c.in-Some.cover.now (sym c.get.ensures ∙ ap option_copied c.in-Some.is)
    (λ h. let t : false ≡ true = sym c.if-not-is_of.true ∙ c.is_of.ensures.1 h in cc)

pub returns-then-is_made-clause-right : goal.returns-then-is_made-clause-right
returns-then-is_made-clause-right c =
    let cert = c.args.cert.now in
    cover_same cert c.args.rooms.now.bindings.entries c.args.due c.args.place c.in-Some.cover.now (sym c.get.ensures ∙ ap option_copied c.in-Some.is) (c.is_of.ensures.0 c.if-not-is_of.false) true
    (made_named cert.cert c.requires.comparable.base c.requires.comparable.placed c.args.due c.in-Some.cover.now (c.is_made.ensures c.if-is_made.true) c.args.rooms.now.bindings.entries)

pub is_named-requires-clause-cover : goal.is_named-requires-clause-cover
is_named-requires-clause-cover c = whole_cover_at c.args.cert.now c.requires.comparable.whole c.args.place c.in-Some.cover.now (sym c.get.ensures ∙ ap option_copied c.in-Some.is)

pub returns-clause-whole : goal.returns-clause-whole
returns-clause-whole c =
    let cert = c.args.cert.now in
    let s = c.is_named.new.cert in
    on_ok_weaker c.is_named.result (covered_whole cert s c.requires.comparable.whole c.is_named.ensures.kept) c.is_named.ensures.whole

pub returns-clause-right : goal.returns-clause-right
returns-clause-right c =
    IfOk-weaker c.is_named.result _ _ (λ r h.
    cover_same c.args.cert.now c.args.rooms.now.bindings.entries c.args.due c.args.place c.in-Some.cover.now (sym c.get.ensures ∙ ap option_copied c.in-Some.is) (c.is_of.ensures.0 c.if-not-is_of.false) r (λ s resolved m n sel there general. h s resolved m sel)) c.is_named.ensures.named

pub returns-clause-within : goal.returns-clause-within
returns-clause-within c =
    IfOk-weaker c.is_named.result _ _ (λ r h e. slice_get_within c.args.cert.now.covers c.args.place c.in-Some.cover.now (sym c.get.ensures ∙ ap option_copied c.in-Some.is)) c.is_named.ensures.named
