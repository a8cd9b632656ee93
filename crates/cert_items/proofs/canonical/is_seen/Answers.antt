use Rattle.std.proofs.Common.{◌≡◌, ℕ, List, true, subst}
use Rattle.std.proofs.lemmas.Result.{IfOk-weaker}
use Rattle.inst_logic.specs.declared.signed.Signed.{Signed}
use Rattle.inst_logic.specs.Lists.{distinct}
use Rattle.clause_form.specs.Literals.{id_eq}
use Rattle.cert_items.proofs.CanonicalIds.{seen_canonical}
use Rattle.cert_items.proofs.canonical.is_seen.Goals as goal

pub returns : goal.returns
returns c =
    let yes : c.are_distinct.result ≡ true = (let f = c.if-not-are_distinct.false in cc) in
    let once = subst (λ (ls : List (Signed ℕ)). distinct id_eq ls ≡ ls) c.as_slice.ensures (c.are_distinct.ensures yes) in
    IfOk-weaker c.is_numbered.result _ _ (λ r h k. seen_canonical c.args.bank.now c.args.c.now c.distinct.ensures c.requires (h k) once) c.is_numbered.ensures
