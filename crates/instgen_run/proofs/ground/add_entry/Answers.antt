use Rattle.std.proofs.Common.{◌≡◌, ◌+◌, ◌++◌, ◌∷◌, [], List, length, arith, ap, sym, ◌∙◌, length-append, subst}
use Rattle.inst_logic.specs.declared.signed.Signed.{Signed}
use Rattle.term_bank.specs.Forest.{clause_at}
use Rattle.inst_calculus.specs.Abstraction.{abstract_literals, AreAbstracted}
use Rattle.ground_abs.specs.Abstracts.{atoms_in, AreNumbered}
use Rattle.instgen_run.proofs.Links.{one_more_linked, one_more_used}
use Rattle.instgen_run.proofs.ground.add_entry.Goals as goal

pub returns-clause-linked : goal.returns-clause-linked
returns-clause-linked g c = λ bot cs h.
    let a = c.in_ok-abstract_into.ensures in
    let old = c.args.ground.now in
    let before = old.abstraction.ids in
    let later = c.abstract_into.new.self.ids in
    let clause = clause_at c.args.bank.now c.args.clause.now in
    record {
      constant = a.bot ∙ h.constant;
      fits = a.fits c.requires.atoms h.fits;
      count =
          let m : length later ≡ length before + length a.grows.0 = ap length a.grows.1 ∙ length-append before a.grows.0 in
          omega (arith, c.in_ok-add.ensures.kept, c.in_ok-make_atoms.ensures.atoms, c.prefer_from.ensures.atoms, h.count, m, c.len.ensures, c.len-before.ensures);
      given =
          let e = c.in_ok-add.ensures.grown in
          let f = c.prefer_from.ensures.added ∙ c.in_ok-make_atoms.ensures.added in
          let p = c.in_ok-push.ensures.ok in
          e ∙ ap (λ xs. xs ++ c.as_slice-literals.result.now ∷ []) (f ∙ h.given) ∙ sym p;
      same = subst (λ x. AreAbstracted bot (atoms_in c.abstract_into.new.bank later) x (cs ++ clause ∷ [])) (sym (c.in_ok-push.ensures.ok ∙ ap (λ (x : List (Signed _)). old.literals ++ x ∷ []) c.as_slice-literals.ensures.value))
          (one_more_linked c.args.bank.now c.abstract_into.new.bank before later bot old.literals cs c.abstract_into.new.lits.items clause
          a.extends h.fits.within a.grows h.same a.below (a.literals ∙ ap (λ b. abstract_literals b clause) h.constant));
      used = one_more_used c.args.bank.now c.abstract_into.new.bank before later bot cs clause a.extends h.fits.within
          (subst (λ b. AreNumbered c.abstract_into.new.bank before later (abstract_literals b clause)) h.constant a.numbered) h.used;
    }

pub returns-clause-count : goal.returns-clause-count
returns-clause-count g c =
    let a = c.in_ok-abstract_into.ensures in
    let before = c.args.ground.now.abstraction.ids in
    let later = c.abstract_into.new.self.ids in
    let m : length later ≡ length before + length a.grows.0 = ap length a.grows.1 ∙ length-append before a.grows.0 in
    omega (arith, c.in_ok-add.ensures.kept, c.in_ok-make_atoms.ensures.atoms, c.prefer_from.ensures.atoms, c.requires.count, m, c.len.ensures, c.len-before.ensures)
