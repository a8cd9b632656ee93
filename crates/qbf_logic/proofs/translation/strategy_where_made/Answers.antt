use Rattle.qbf_logic.proofs.Valued.{each_once}
use Rattle.qbf_logic.proofs.Made.{matrix_of_strategy, strategy_of_choice}
use Rattle.qbf_logic.proofs.translation.strategy_where_made.Goals as goal

pub returns-clause-some_values : goal.returns-clause-some_values
returns-clause-some_values c = λ prefix ms chosen once. strategy_of_choice prefix ms chosen (each_once prefix once)

pub returns-clause-matrix : goal.returns-clause-matrix
returns-clause-matrix c = matrix_of_strategy
