use Rattle.szs_prove.proofs.Endings.{asked_atom, chain, check_failed, checked, decided, formula_value, has_core, interrupted, memory, modelled, read_fault, resource_out, rewritten, solved, stressed, usage_unread, write_fault}
use Rattle.szs_prove.proofs.TakenVerdicts.{took_verdict}
use Rattle.szs_prove.proofs.Situated.{FormsOne, LoadsOne, exact}
use Rattle.szs_prove.proofs.command.run.Goals as goal

pub returns : goal.returns
returns g c =
    let a = c.answer_words.ensures.answered in
    let loads : LoadsOne = record { problems = c.one_loading.ensures.problems; refusals = c.one_loading.ensures.refusals; apart = c.one_loading.ensures.apart } in
    let forms : FormsOne = record {
      dimacs = record { spellings = c.one_spelling.ensures.clauses; refusals = c.read_or_refused.ensures.one; apart = c.read_or_refused.ensures.not_both };
      qdimacs = record { spellings = c.one_spelling.ensures.formulas; refusals = c.formula_or_refused.ensures.one; apart = c.formula_or_refused.ensures.not_both };
    } in
    record {
      follows = c.answer_words.ensures.follows;
      answered = a;
      exact = exact loads (c.findings_are_one.ensures.checks, c.findings_are_one.ensures.replies) forms c.asked_once.ensures.once _ _ _ _ a;
      decided = decided _ _ _ _ a c.asked_once.ensures.once;
      checked = checked _ _ _ _ a c.asked_once.ensures.once;
      rewritten = rewritten _ _ _ _ a c.asked_once.ensures.once;
      asked = asked_atom _ _ _ _ a c.asked_once.ensures.once;
      check_failed = check_failed _ _ _ _ a;
      stressed = stressed _ _ _ _ a c.asked_once.ensures.once;
      chain = chain _ _ _ _ a c.asked_once.ensures.once;
      solved = solved _ _ _ _ a c.asked_once.ensures.once;
      formula = formula_value _ _ _ _ a c.asked_once.ensures.once;
      model = modelled _ _ _ _ a c.asked_once.ensures.once;
      core = has_core _ _ _ _ a c.asked_once.ensures.once;
      usage = usage_unread _ _ _ _ a;
      verdict = took_verdict _ _ _ _ a;
      resource_out = resource_out _ _ _ _ a;
      read_fault = read_fault _ _ _ _ a;
      write_fault = write_fault _ _ _ _ a;
      interrupted = interrupted _ _ _ _ a;
      memory = memory _ _ _ _ a;
    }
