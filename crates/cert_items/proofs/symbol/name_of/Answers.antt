use Rattle.std.proofs.Common.{◌≡◌, ◌∙◌, List, ℕ, sym, ap, subst}
use Rattle.std.specs.Prelude.{IsTrue}
use Rattle.inst_logic.specs.Printing.{is_readable_name, name_text}
use Rattle.cert_format.proofs.Names.{quoted_name, quote_free, bare_name}
use Rattle.cert_items.proofs.symbol.name_of.Goals as goal

named : (text name bytes : List ℕ) → text ≡ name_text name → IsTrue (is_readable_name name) → bytes ≡ name → (text ≡ name_text bytes) × IsTrue (is_readable_name bytes)
named text name bytes h r e = (h ∙ ap name_text (sym e), subst (λ (n : List ℕ). IsTrue (is_readable_name n)) (sym e) r)

pub returns-in_ok-of-in-Some : goal.returns-in_ok-of-in-Some
returns-in_ok-of-in-Some c =
    let q = quoted_name c.in-Some.rest.now c.requires.0 (sym c.in-Some.ensures.some ∙ c.requires.2) in
    named c.args.text.now c.requires.0 _ c.requires.2 c.requires.1 (c.in_ok-of-in-Some.ensures ∙ (c.as_slice.ensures.value ∙ c.in_ok-bytes-in-Some.ensures) ∙ q)

pub returns-in_ok-of-in-None : goal.returns-in_ok-of-in-None
returns-in_ok-of-in-None c =
    let q = bare_name c.args.text.now c.requires.0 (quote_free c.args.text.now c.in-None.ensures.none) c.requires.2 in
    named c.args.text.now c.requires.0 _ c.requires.2 c.requires.1 (c.in_ok-of-in-None.ensures ∙ q)
