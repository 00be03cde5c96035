-- Stocks of states.
use Rattle.std.specs.Prelude.{◌≡◌, List, map}
use Rattle.std.specs.FinMap as fin
use Rattle.gx_values.specs.declared.values.Value.{Value}
use Rattle.gx_model.specs.States.{Link, State}
use Rattle.gx_scan.specs.Files.{file_records}
use Rattle.gx_move.specs.declared.stock.Stock.{Stock}

-- the pairs of a link, each a member with its owner, in the order of the members
abbrev pub pairs_in : Link → List (Value × Value)
pairs_in link = fin.entries link

-- the stock has the records of each file and the pairs of each link of the state
pub record IsStockOf (s : State) (stock : Stock) : Type 0 where
  pub files : stock.files ≡ map file_records s.files
  pub links : stock.links ≡ map pairs_in s.links
