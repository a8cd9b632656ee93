use Rattle.std.proofs.Common.{◌≡◌, ◌+◌, ◌≤◌, length, drop, None, Some, refl, sym, subst, ◌∙◌}
use Rattle.std.proofs.lemmas.List.{take_rest}
use Rattle.tptp_read.specs.Scan.{token_at}
use Rattle.tptp_read.specs.Stream.{Stream, IsEnd, GivesToken}
use Rattle.tptp_read.proofs.Decided.{stops, gives}
use Rattle.tptp_read.proofs.stream.Tokens.advance.Goals as goal

pub returns-in-None : goal.returns-in-None
returns-in-None c =
    let text = c.self.inside.text.now in
    let at = c.self.inside.at in
    let g = c.gap_len.result in
    let gap_rest = take_rest text at in
    let token_rest = take_rest text (at + g) in
    let said = rw gap_rest at c.gap_len.ensures in
    let found = rw token_rest at c.token_at.ensures in
    let none : None ≡ token_at (drop (at + g) text) = sym c.in-None.is ∙ found.is in
    let h = stops text at g c.self.invariant said.is none in
    subst (λ (s : Stream). (text ≡ s.text) × (s.at ≤ at + g) × (at + g ≤ length s.text) × IsEnd (drop s.at s.text) (drop (at + g) s.text)) c.self.view_is (refl, h.0, h.1, h.2)

pub returns-in-Some : goal.returns-in-Some
returns-in-Some c =
    let text = c.self.inside.text.now in
    let at = c.self.inside.at in
    let g = c.gap_len.result in
    let kind = c.in-Some.kind in
    let len = c.in-Some.len in
    let gap_rest = take_rest text at in
    let token_rest = take_rest text (at + g) in
    let said = rw gap_rest at c.gap_len.ensures in
    let found = rw token_rest at c.token_at.ensures in
    let some : Some (kind, len) ≡ token_at (drop (at + g) text) = sym c.in-Some.is ∙ found.is in
    let h = gives text at g len kind c.self.invariant said.is some in
    subst (λ (s : Stream). (text ≡ s.text) × (at + g + len ≡ at + g + len) × GivesToken s (record { kind = kind; start = at + g; end = at + g + len })) c.self.view_is (refl, refl, h)
