use Rattle.std.proofs.Common.{List, ℕ, sym, subst}
use Rattle.std.proofs.lemmas.Result.{err_from_is_err_and}
use Rattle.cert_reader.specs.Reads.{IsTextOf, value_of}
use Rattle.cert_reader.proofs.Causes.{syntax_of, version_of, taken_of}
use Rattle.cert_reader.proofs.OneReading.{has_lines, no_certificate}
use Rattle.cert_reader.proofs.read.read_certificate.Goals as goal

pub returns-in_ok-word-in-Other-clause-taken : goal.returns-in_ok-word-in-Other-clause-taken
returns-in_ok-word-in-Other-clause-taken c t = absurd (no_certificate has_lines c.args.text.now c.in-Other.digits.now c.in-Other.ensures t)

pub returns-in_ok-cert-in-Begun-clause-read : goal.returns-in_ok-cert-in-Begun-clause-read
returns-in_ok-cert-in-Begun-clause-read c =
    let k = c.in_ok-cert-in-Begun in
    subst (λ (n : List ℕ). IsTextOf c.args.text.now c.in-Begun.shape.format n (value_of k.cert)) (sym c.in_ok-name-in-Begun.ensures) (k.ensures.read c.args.text.now c.in-Begun.ensures)

pub returns-in_err-cert-in-Begun-clause-syntax : goal.returns-in_err-cert-in-Begun-clause-syntax
returns-in_err-cert-in-Begun-clause-syntax c line e =
    let text = c.args.text.now in
    let f = c.from_residual-in_err-cert-in-Begun in
    let p = err_from_is_err_and f.result f.ensures.1 in
    syntax_of f.result text (rw (p.1, p.2) (c.in_err-cert-in-Begun.ensures.refused text c.in-Begun.ensures)) line e

pub returns-in_err-cert-in-Begun-clause-version : goal.returns-in_err-cert-in-Begun-clause-version
returns-in_err-cert-in-Begun-clause-version c word e =
    let text = c.args.text.now in
    let f = c.from_residual-in_err-cert-in-Begun in
    let p = err_from_is_err_and f.result f.ensures.1 in
    version_of f.result text (rw (p.1, p.2) (c.in_err-cert-in-Begun.ensures.refused text c.in-Begun.ensures)) word e

pub returns-in_err-cert-in-Begun-clause-taken : goal.returns-in_err-cert-in-Begun-clause-taken
returns-in_err-cert-in-Begun-clause-taken c t =
    let text = c.args.text.now in
    let f = c.from_residual-in_err-cert-in-Begun in
    let p = err_from_is_err_and f.result f.ensures.1 in
    taken_of f.result text (rw (p.1, p.2) (c.in_err-cert-in-Begun.ensures.refused text c.in-Begun.ensures)) t
