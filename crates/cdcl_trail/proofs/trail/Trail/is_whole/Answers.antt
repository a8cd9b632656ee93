use Rattle.std.proofs.Common.{◌≡◌, ◌<◌, length, sym, subst, arith, eq-eqb}
use Rattle.std.proofs.lemmas.List.{length-map}
use Rattle.std.proofs.lemmas.Bool.{eqb-true}
use Rattle.cdcl_trail.specs.Attached.{WatchedTrail}
use Rattle.cdcl_trail.specs.Trail.{IsUnset}
use Rattle.cdcl_trail.specs.Values.{entries_of, entry_at}
use Rattle.cdcl_trail.proofs.ValuesLaws.{no_entry, has_room, all_set}
use Rattle.cdcl_trail.proofs.trail.Trail.is_whole.Goals as goal

pub returns : goal.returns
returns c =
    let s = c.self.inside in
    let es = entries_of s.watched.values in
    let b = s.watched.values.entries.items in
    let size = length-map s.watched.values.literals.items (entry_at b) in (
      λ t a h unset.
          let low : a < length b = subst (λ (x : WatchedTrail). a < x.trail.atoms) (sym c.self.view_is) h in
          let none : IsUnset es a = subst (λ (x : WatchedTrail). IsUnset x.trail.entries a) (sym c.self.view_is) unset in
          let few : length es < length b = has_room es b a c.self.invariant.0.by_atom (no_entry es b a c.self.invariant.0.by_atom low none) in
          let same : c.len.result ≡ c.len-2.result = eqb-true c.len.result c.len-2.result t in
          absurd (omega (arith, few, same, c.len.ensures, c.len-2.ensures, s.watched.values.literals.ok.0, size)),
      λ full.
          let all : length es ≡ length b = all_set es b c.self.invariant.0.by_atom (λ a low unset. full a (subst (λ (x : WatchedTrail). a < x.trail.atoms) c.self.view_is low) (subst (λ (x : WatchedTrail). IsUnset x.trail.entries a) c.self.view_is unset)) in
          eq-eqb c.len.result c.len-2.result (omega (arith, all, c.len.ensures, c.len-2.ensures, s.watched.values.literals.ok.0, size)),
    )
