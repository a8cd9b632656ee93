-- Tokens of the code as tokens of the grammar, and what reading gives in trees.
use Rattle.std.specs.Prelude.{◌≡◌, ℕ, List, ◌++◌, map, Option, Some, None, Result, Ok, Err}
use Rattle.std.specs.Option.{option_map}
use Rattle.std.specs.Borrow.{Bor}
use Rattle.inst_logic.specs.Tree.{Tree}
use Rattle.inst_logic.specs.View.{tree}
use Rattle.inst_logic.specs.declared.term.Term.{Term}
use Rattle.tptp_read.specs.declared.lexeme.Lexeme.{Lexeme}
use Rattle.tptp_read.specs.declared.stop.Stop.{Stop}
use Rattle.tptp_read.specs.declared.stop.Stop.TheVariants as stops
use Rattle.tptp_read.specs.Stream.{Tok}
use Rattle.tptp_read.specs.Grammar.{Written}
use Rattle.tptp_read.specs.Meaning.{tree_of}

abbrev pub tok : Lexeme → Tok
tok l = record { kind = l.kind; text = l.text.now }

abbrev pub toks : List Lexeme → List Tok
toks ls = map tok ls

-- the bytes of each
abbrev pub texts : List (Bor (List ℕ)) → List (List ℕ)
texts ks = map (λ (k : Bor (List ℕ)). k.now) ks

abbrev pub in_trees : List (List ℕ) → Option (Written × List Tok) → Option (Tree × List Tok)
in_trees vs read = option_map (λ z. (tree_of vs z.0, z.1)) read

-- behind these trees
abbrev pub in_lists : List (List ℕ) → List Tree → Option (List Written × List Tok) → Option (List Tree × List Tok)
in_lists vs front read = option_map (λ z. (front ++ map (tree_of vs) z.0, z.1)) read

-- What a function returned, seen by view, is what reading gives, unless memory ran out.
abbrev pub Fails : {Y : Type 0} → Stop → Option Y → Type 0
Fails stops.Memory read = Unit {0}
Fails stops.Wrong read = read ≡ None

abbrev pub Gives : {X Y : Type 0} → (X → Y) → Result X Stop → Option Y → Type 0
Gives view (Ok x) read = read ≡ Some (view x)
Gives view (Err e) read = Fails e read

abbrev pub sides : Term → Option Term → Tree × Option Tree
sides t u = (tree t, option_map tree u)
