use Rattle.std.proofs.Common.{◌≡◌, ◌∙◌, ℕ, List, [], ◌∷◌, ◌++◌, ap, sym, subst, map, take, length, Some, arith}
use Rattle.std.proofs.lemmas.List.{length-take}
use Rattle.inst_logic.specs.Derivations.{at_number}
use Rattle.inst_logic.specs.Tree.{app, none}
use Rattle.inst_logic.specs.WellFormed.{IsTerm}
use Rattle.term_bank.specs.Forest.{IsTermIn, tree_at}
use Rattle.inst_calculus.proofs.Distinct.{length_map}
use Rattle.term_bank.proofs.Growth.{extends_trans}
use Rattle.global_subs.specs.declared.made.Made.{Made}
use Rattle.instgen_run.specs.Clauses.{Item}
use Rattle.instgen_loop.specs.Records.{IsRecord}
use Rattle.instgen_run.proofs.Grown.{entries_kept}
use Rattle.instgen_loop.proofs.RecordLaws.{concluded_extends, one_more_record, clauses_so_far}
use Rattle.instgen_loop.proofs.records.records_with.Goals as goal

pub record_of-requires-clause-entries : goal.record_of-requires-clause-entries
record_of-requires-clause-entries c = entries_kept c.args.bank.now c.loop-i.bank c.loop-i.invariant.extends c.loop-i.invariant.formed c.args.clauses.now.entries c.requires.entries

pub record_of-requires-clause-concluded : goal.record_of-requires-clause-concluded
record_of-requires-clause-concluded c = concluded_extends c.args.bank.now c.loop-i.bank c.loop-i.invariant.extends c.args.clauses.now.entries c.requires.entries c.requires.concluded

pub loop-i-preserved : goal.loop-i-preserved
loop-i-preserved c =
    let f = c.args.bank.now in
    let g = c.loop-i.bank in
    let h = c.record_of.new.bank in
    let es = c.args.clauses.now.entries in
    let made = c.loop-i.made.items in
    let m = c.in_ok-record.record in
    let kept = entries_kept f g c.loop-i.invariant.extends c.loop-i.invariant.formed es c.requires.entries in
    let k = c.in_ok-record.ensures in
    let (item, item_at, clause) = k.made in
    let count : length made ≡ c.loop-i.i = sym (length_map (λ (x : Made). x.clause) made) ∙ ap length c.loop-i.invariant.clauses ∙ length_map (λ (e : Item). e.0) (take c.loop-i.i es) ∙ omega (arith, length-take c.loop-i.i es) in
    let items : c.push.new.self.items ≡ made ++ m ∷ [] = c.in_ok-push.ensures.items in
    record {
      extends = extends_trans f g h c.loop-i.invariant.extends k.extends;
      formed = k.formed;
      clauses = ap (map (λ (x : Made). x.clause)) items ∙ clauses_so_far es made c.loop-i.i m item c.loop-i.invariant.clauses item_at clause;
      constant = k.constant ∙ c.loop-i.invariant.constant;
      term =
          let (within, term) = c.loop-i.invariant.term in
          subst (IsTermIn h) (sym k.constant) (let l = k.extends.trees.0 in omega arith, subst IsTerm (sym (k.extends.trees.1 c.loop-i.room.constant within)) term);
      each = λ bot e.
          let now : tree_at g c.loop-i.room.constant ≡ app bot none =
          ap (tree_at g) c.loop-i.invariant.constant ∙ c.loop-i.invariant.extends.trees.1 c.args.room.now.constant c.requires.constant.0 ∙ e in
          subst (λ (xs : List Made). (n : ℕ) (x : Made) → at_number xs n ≡ Some x → IsRecord bot h es n x) (sym items)
          (one_more_record bot g h es made c.loop-i.i m k.extends kept count (c.loop-i.invariant.each bot e) (k.record bot now));
    }
