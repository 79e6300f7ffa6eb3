-- What is so of each row of the tables of messages.
use Rattle.std.proofs.Common.{◌≡◌, ◌≤◌, ℕ, ◌==◌, ◌&&◌, nat_le, Bool, true, false, List, [], ◌∷◌, length, Option, Some, None, IfSome, option_map, sym, subst, if◌then◌else◌, arith}
use Rattle.std.specs.List.{list_all}
use Rattle.scmi_codec.specs.Listing.{HeldRow, said, Said, rows_of, row_in, listed_row}

-- a row's message, its reply and its delayed response have as many fields as a message may have
abbrev HasFew : Said → Type 0
HasFew row = (length row.asks ≤ 4) × (length row.gives ≤ 4) × (length row.later ≤ 4)

abbrev has_few : Said → Bool
has_few row =
    nat_le (length row.asks) 4 && nat_le (length row.gives) 4 && nat_le (length row.later) 4

few_in : (id : ℕ) (rows : List Said) → list_all has_few rows ≡ true → IfSome (row_in id rows) HasFew
few_in id [] few = tt
few_in id (row ∷ rows) few = pick (row.id == id) (few_in id rows (grind arith)) where
  pick : (b : Bool) → IfSome (row_in id rows) HasFew
      → IfSome (if b then Some row else row_in id rows) HasFew
  pick true rest = (grind arith, grind arith, grind arith)
  pick false rest = rest

few_of : (protocol : ℕ) → list_all has_few (rows_of protocol) ≡ true
unfolding rows_of
few_of protocol = grind arith

pub few : (protocol id : ℕ) (o : Option HeldRow) → option_map said o ≡ listed_row protocol id
    → IfSome o
    (λ row. (length row.asks.now ≤ 4) × (length row.gives.now ≤ 4) × (length row.later.now ≤ 4))
few protocol id None e = tt
few protocol id (Some row) e =
    subst (λ o. IfSome o HasFew) (sym e) (few_in id (rows_of protocol) (few_of protocol))
