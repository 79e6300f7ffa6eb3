-- What a contract sees of the two ends of a channel.
use Rattle.std.specs.Prelude.{◌≡◌, ℕ, ◌+◌, ◌%◌, ◌^◌, Bool, false, ◌||◌, List, [], length}
use Rattle.scmi_codec.specs.declared.frame.Frame.{Frame}
use Rattle.scmi_codec.specs.declared.frame.Answer.{Answer}

-- what the caller has done
pub record CallerView : Type 0 where
  pub posted : List Frame
  pub read : List Answer
  pub closed : Bool  -- it has closed
  pub told : Bool  -- it was told that the callee has closed
  pub left : Bool  -- its last post was withdrawn or given up
  pub posts : ℕ  -- its calls of `post`, modulo 2^64
  pub collects : ℕ  -- its calls of `collect`, modulo 2^64

-- what the callee has done
pub record CalleeView : Type 0 where
  pub taken : List Frame
  pub answered : List Answer
  pub closed : Bool  -- it has closed
  pub told : Bool  -- it was told that the caller has closed
  pub takes : ℕ  -- its calls of `take`, modulo 2^64

-- a caller that has done nothing
abbrev pub new_caller : CallerView
new_caller = record {
  posted = [];
  read = [];
  closed = false;
  told = false;
  left = false;
  posts = 0;
  collects = 0;
}

-- a callee that has done nothing
abbrev pub new_callee : CalleeView
new_callee = record { taken = []; answered = []; closed = false; told = false; takes = 0 }

-- a post is outstanding: its answer was not read, and it was neither withdrawn nor given up
pub record IsOutstanding (v : CallerView) : Type 0 where
  pub unread : length v.posted ≡ length v.read + 1
  pub stays : v.left ≡ false

-- the callee owes an answer
abbrev pub Owes : CalleeView → Type 0
Owes v = length v.taken ≡ length v.answered + 1

-- whether the caller has closed, or was notified that the callee has
abbrev pub knows_close : CallerView → Bool
knows_close v = v.closed || v.told

-- whether the callee has closed, or was notified that the caller has
abbrev pub callee_knows_close : CalleeView → Bool
callee_knows_close v = v.closed || v.told

-- one more call, modulo 2^64
abbrev pub one_more : ℕ → ℕ
one_more n = (n + 1) % 2 ^ 64
