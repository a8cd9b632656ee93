-- What is hashed of a node.
use Rattle.std.specs.Prelude.{ℕ, ◌+◌, ◌*◌, ◌++◌, slice_index_or}
use Rattle.std.specs.Hash as fed
use Rattle.std.specs.Hash.{HashWrites}
use Rattle.term_bank.specs.declared.node.Node.{Node}
use Rattle.term_bank.specs.declared.node.Node.TheVariants.{Var, Constant, Unary, Binary, Many}

-- a symbol's number and an argument as one number
abbrev pub joined : ℕ → ℕ → ℕ
joined number arg = number + arg * 4294967296

abbrev pub node_fed : Node → HashWrites
node_fed (Var v) = fed.u64 v
node_fed (Constant s) = fed.u32 s
node_fed (Unary s args) = fed.u64 (joined s (slice_index_or args 0 0))
node_fed (Binary s args) = fed.u64 (joined s (slice_index_or args 0 0)) ++ fed.u32 (slice_index_or args 1 0)
node_fed (Many s args) = fed.u32 s ++ fed.slice fed.u32 args
