-- How the two ends of one channel agree, once both are at hand.
use Rattle.std.specs.Prelude.{◌≡◌, ◌+◌, ◌≤◌, ◌⊎◌, true, false, List, [], ◌∷◌, ◌++◌, length}
use Rattle.scmi_link.specs.View.{CallerView, CalleeView, Owes}

-- xs is ys without its last
abbrev pub IsAllButLast : {T : Type 0} → List T → List T → Type 0
IsAllButLast {T} xs ys = (last : T) × (ys ≡ xs ++ last ∷ [])

-- xs is the first part of ys
abbrev pub IsPrefixOf : {T : Type 0} → List T → List T → Type 0
IsPrefixOf {T} xs ys = (rest : List T) × (xs ++ rest ≡ ys)

-- the lists of the two ends: all that was posted was taken, but for the last, and all that was
-- taken was answered, but for the last; the caller has read a first part of the answers, and at
-- most one post of its own has no answer read
pub record Agree (caller : CallerView) (callee : CalleeView) : Type 0 where
  pub taken : (callee.taken ≡ caller.posted) ⊎ IsAllButLast callee.taken caller.posted
  pub answered : (length callee.taken ≡ length callee.answered) ⊎ Owes callee
  pub read : IsPrefixOf caller.read callee.answered
  pub unread : length caller.posted ≤ length caller.read + 1

-- what a close, or word of one, shows of both ends
pub record Closed (caller : CallerView) (callee : CalleeView) : Type 0 where
  -- a post that was withdrawn or given up was never taken, and every answer was read
  pub left : caller.left ≡ true → IsAllButLast callee.taken caller.posted
      × (caller.read ≡ callee.answered)
  -- a caller that closed and left no post behind has read the answer to each
  pub idle : caller.closed ≡ true → caller.left ≡ false
      → (callee.taken ≡ caller.posted) × (caller.read ≡ callee.answered)
  -- an end that was notified of the other's close was notified of the truth
  pub caller_told : caller.told ≡ true → callee.closed ≡ true
  pub callee_told : callee.told ≡ true → caller.closed ≡ true
