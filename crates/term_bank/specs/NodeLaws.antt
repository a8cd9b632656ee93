-- The derived test of equality of nodes decides equality, so equal nodes are hashed alike.
use Rattle.std.specs.Prelude.{◌≡◌, Bool, true, nat_eq}
use Rattle.std.proofs.Common.{ap, ap₂}
use Rattle.std.proofs.lemmas.Slice.Eq.{bytes_eq-Decides}
use Rattle.std.proofs.lemmas.Bool.Decides.{Decides-eqb}
use Rattle.inst_logic.specs.EqualLaws.{and_left, and_right}
use Rattle.term_bank.specs.contracts.node.NodePartialEq.TheImpl as node
use Rattle.term_bank.specs.declared.node.Node.{Node}
use Rattle.term_bank.specs.declared.node.Node.TheVariants.{Var, Constant, Unary, Binary, Many}
use Rattle.term_bank.specs.NodeHashes.{node_fed}

abbrev pub node_eq : Node → Node → Bool
node_eq = (node.ghosts).eq

pub node_same : (n m : Node) → node_eq n m ≡ true → n ≡ m
node_same (Var s) (Var r) h = ap (λ x. Var x) ((Decides-eqb s r).0 h)
node_same (Var s) (Constant r) h = absurd (cc)
node_same (Var s) (Unary r ys) h = absurd (cc)
node_same (Var s) (Binary r ys) h = absurd (cc)
node_same (Var s) (Many r ys) h = absurd (cc)
node_same (Constant s) (Var r) h = absurd (cc)
node_same (Constant s) (Constant r) h = ap (λ x. Constant x) ((Decides-eqb s r).0 h)
node_same (Constant s) (Unary r ys) h = absurd (cc)
node_same (Constant s) (Binary r ys) h = absurd (cc)
node_same (Constant s) (Many r ys) h = absurd (cc)
node_same (Unary s xs) (Var r) h = absurd (cc)
node_same (Unary s xs) (Constant r) h = absurd (cc)
node_same (Unary s xs) (Unary r ys) h = ap₂ (λ x y. Unary x y) ((Decides-eqb s r).0 (and_left _ _ h)) ((bytes_eq-Decides xs ys).0 (and_right (nat_eq s r) _ h))
node_same (Unary s xs) (Binary r ys) h = absurd (cc)
node_same (Unary s xs) (Many r ys) h = absurd (cc)
node_same (Binary s xs) (Var r) h = absurd (cc)
node_same (Binary s xs) (Constant r) h = absurd (cc)
node_same (Binary s xs) (Unary r ys) h = absurd (cc)
node_same (Binary s xs) (Binary r ys) h = ap₂ (λ x y. Binary x y) ((Decides-eqb s r).0 (and_left _ _ h)) ((bytes_eq-Decides xs ys).0 (and_right (nat_eq s r) _ h))
node_same (Binary s xs) (Many r ys) h = absurd (cc)
node_same (Many s xs) (Var r) h = absurd (cc)
node_same (Many s xs) (Constant r) h = absurd (cc)
node_same (Many s xs) (Unary r ys) h = absurd (cc)
node_same (Many s xs) (Binary r ys) h = absurd (cc)
node_same (Many s xs) (Many r ys) h = ap₂ (λ x y. Many x y) ((Decides-eqb s r).0 (and_left _ _ h)) ((bytes_eq-Decides xs ys).0 (and_right (nat_eq s r) _ h))

pub node_alike : (n m : Node) → node_eq n m ≡ true → node_fed n ≡ node_fed m
node_alike n m h = ap node_fed (node_same n m h)
