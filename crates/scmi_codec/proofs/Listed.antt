-- What is so of each row of the tables of messages.
use Rattle.std.proofs.Common.{◌≡◌, ◌≤◌, ℕ, ◌==◌, nat_le, Bool, true, false, List, [], ◌∷◌, Option, Some, None, IfSome, option_map, sym, subst, if◌then◌else◌, arith}
use Rattle.std.specs.List.{list_all}
use Rattle.scmi_codec.specs.Listing.{HeldRow, said, Said, rows_of, row_in, listed_row, words_of}

few_in : (id : ℕ) (rows : List Said) → list_all (λ row. nat_le (words_of row.asks) 8) rows ≡ true
    → IfSome (row_in id rows) (λ row. words_of row.asks ≤ 8)
few_in id [] few = tt
few_in id (row ∷ rows) few = pick (row.id == id) (few_in id rows (grind arith)) where
  pick : (b : Bool) → IfSome (row_in id rows) (λ row. words_of row.asks ≤ 8)
      → IfSome (if b then Some row else row_in id rows) (λ row. words_of row.asks ≤ 8)
  pick true rest = grind arith
  pick false rest = rest

all_few : (protocol : ℕ) → list_all (λ row. nat_le (words_of row.asks) 8) (rows_of protocol) ≡ true
unfolding rows_of
all_few protocol = grind arith

pub few : (protocol id : ℕ) → IfSome (listed_row protocol id) (λ row. words_of row.asks ≤ 8)
few protocol id = few_in id (rows_of protocol) (all_few protocol)

pub few_held : (protocol id : ℕ) (o : Option HeldRow) → option_map said o ≡ listed_row protocol id
    → IfSome o (λ row. words_of row.asks.now ≤ 8)
few_held protocol id None e = tt
few_held protocol id (Some row) e =
    subst (λ o. IfSome o (λ row. words_of row.asks ≤ 8)) (sym e) (few protocol id)
