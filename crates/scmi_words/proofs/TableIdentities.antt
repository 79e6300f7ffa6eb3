-- An identity tells which table it is.
use Rattle.std.proofs.Common.{◌≡◌, ℕ, ap, get_or, drop}
use Rattle.atomic_table.specs.Seated.{TableId}
use Rattle.scmi_words.specs.WordChannel.{table_identity}

pub same_table : (a b : TableId) → table_identity a ≡ table_identity b → a ≡ b
unfolding table_identity
same_table a b e = let at : (i : ℕ) → _ = λ i. ap (λ xs. get_or xs i 0) e in
    λ j. record {
      words = at 0 j;
      slots = at 1 j;
      views_name = at 2 j;
      atom = at 3 j;
      block = at 4 j;
      offset = at 5 j;
      slot_names = drop 6 (e j);
    }
