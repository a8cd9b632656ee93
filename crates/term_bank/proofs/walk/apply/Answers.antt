use Rattle.std.proofs.Common.{◌≡◌, length, arith}
use Rattle.term_bank.proofs.Growth.{slice_is, map_applied, top_formed}
use Rattle.term_bank.proofs.walk.apply.Goals as goal

pub returns-clause-done : goal.returns-clause-done
returns-clause-done c =
    let at = c.in_ok-id.ensures.at in
    let all : c.len.result ≡ length c.args.ids.now.items = omega (arith, c.len.ensures, c.args.ids.now.ok) in
    let slice = slice_is c.args.ids.now.items c.deref.result.now c.saturating_sub-start.result c.len.result c.args.count c.deref.ensures.value c.saturating_sub-start.ensures all in
    rw (c.in_ok-push.ensures.items, c.truncate.ensures.items, c.saturating_sub-start.ensures, all)
    (map_applied c.args.bank.now c.app.new.self c.args.ids.now.items c.in_ok-id.id c.args.sym.now c.args.count c.app.ensures.extends c.requires (rw slice at at.1))

pub returns-clause-formed : goal.returns-clause-formed
returns-clause-formed c old new =
    let all : c.len.result ≡ length c.args.ids.now.items = omega (arith, c.len.ensures, c.args.ids.now.ok) in
    let slice = slice_is c.args.ids.now.items c.deref.result.now c.saturating_sub-start.result c.len.result c.args.count c.deref.ensures.value c.saturating_sub-start.ensures all in
    c.app.ensures.formed old (top_formed c.args.bank.now c.args.ids.now.items _ c.args.sym.now c.args.count slice new)

pub returns-in_err-id-clause-formed : goal.returns-in_err-id-clause-formed
returns-in_err-id-clause-formed c old new =
    let all : c.len.result ≡ length c.args.ids.now.items = omega (arith, c.len.ensures, c.args.ids.now.ok) in
    let slice = slice_is c.args.ids.now.items c.deref.result.now c.saturating_sub-start.result c.len.result c.args.count c.deref.ensures.value c.saturating_sub-start.ensures all in
    c.app.ensures.formed old (top_formed c.args.bank.now c.args.ids.now.items _ c.args.sym.now c.args.count slice new)

pub returns-in_err-push-clause-formed : goal.returns-in_err-push-clause-formed
returns-in_err-push-clause-formed c old new =
    let all : c.len.result ≡ length c.args.ids.now.items = omega (arith, c.len.ensures, c.args.ids.now.ok) in
    let slice = slice_is c.args.ids.now.items c.deref.result.now c.saturating_sub-start.result c.len.result c.args.count c.deref.ensures.value c.saturating_sub-start.ensures all in
    c.app.ensures.formed old (top_formed c.args.bank.now c.args.ids.now.items _ c.args.sym.now c.args.count slice new)
