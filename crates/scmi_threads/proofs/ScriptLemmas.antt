-- A script that was run order by order.
use Rattle.std.proofs.Common.{◌≡◌, ℕ, suc, ◌+◌, ◌%◌, ◌^◌, ◌<◌, ◌≤◌, Bool, false, ◌||◌, List, [], ◌∷◌, ◌++◌, length, take, drop, get_or, Option, Some, None, inl, inr, refl, sym, ap, ap₂, ◌∙◌, subst, arith}
use Rattle.std.specs.List.{flat_map, sum_by}
use Rattle.std.proofs.lemmas.Bool.Decides.{leb_tells}
use Rattle.std.proofs.lemmas.List.{append-nil, length-append, take_more, drop_more, take_all, take-append-drop}
use Rattle.std.proofs.lemmas.Grind.{flat_map-append}
use Rattle.scmi_link.specs.View.{CallerView, new_caller}
use Rattle.std.proofs.lemmas.List.Sums.{sum_by-append}
use Rattle.scmi_link.specs.Scripts.{is_close}
use Rattle.scmi_link.specs.declared.order.Order.{Order}
use Rattle.scmi_ends.specs.Poll.{more_calls}
use Rattle.scmi_ends.proofs.Counts.{calls_of_sum}
use Rattle.scmi_threads.specs.Logs.{HasSameLooks, IsEmptyLog}
use Rattle.scmi_threads.specs.Orders.{HasDone, HasMore, IsAtRest}
use Rattle.scmi_threads.specs.Parts.{Part, Writes}
use Rattle.scmi_threads.specs.ScriptLogs.{Follows, all_done, ends_here, goes_on, IsGatedLog, IsMadeOf, IsScriptLog, line_number}
use Rattle.scmi_threads.specs.declared.agent_log.AgentLog.{AgentLog}
use Rattle.scmi_threads.specs.declared.stop.Stop.{Stop}
use Rattle.scmi_threads.proofs.OrderLemmas.{writes_rest}

-- whether the script has closed after these orders
abbrev pub closed_after : Bool → List Order → Bool
closed_after closed [] = closed
closed_after closed (order ∷ orders) = closed_after (is_close order || closed) orders

-- how many commands were posted after these parts
abbrev pub posted_after : ℕ → List Part → ℕ
posted_after n [] = n
posted_after n (part ∷ parts) = posted_after (n + length part.posted) parts

closed_push : (closed : Bool) (xs : List Order) (x : Order)
    → closed_after closed (xs ++ x ∷ []) ≡ (is_close x || closed_after closed xs)
closed_push closed [] x = refl
closed_push closed (y ∷ xs) x = closed_push (is_close y || closed) xs x

posted_push : (n : ℕ) (ps : List Part) (p : Part)
    → posted_after n (ps ++ p ∷ []) ≡ posted_after n ps + length p.posted
posted_push n [] p = refl
posted_push n (q ∷ ps) p = posted_push (n + length q.posted) ps p

follows_more : {full closed : Bool} {n : ℕ} {xs : List Order} {ps : List Part}
    (x : Order) (p : Part) → Follows full closed n xs None ps → Writes full (closed_after closed xs)
    (posted_after n ps) x None p → Follows full closed n (xs ++ x ∷ []) None (ps ++ p ∷ [])
follows_more x p (all_done closed n) w =
    goes_on closed n x [] None p [] w (all_done (is_close x || closed) (n + length p.posted))
follows_more x p (goes_on closed n y xs _ q ps v f) w =
    goes_on closed n y (xs ++ x ∷ []) None q (ps ++ p ∷ []) v (follows_more x p f w)

follows_to : {full closed : Bool} {n : ℕ} {xs : List Order} {ps : List Part}
    (x : Order) (rest : List Order) (why : Stop) (p : Part) → Follows full closed n xs None ps
    → Writes full (closed_after closed xs) (posted_after n ps) x (Some why) p
    → Follows full closed n (xs ++ x ∷ rest) (Some why) (ps ++ p ∷ [])
follows_to x rest why p (all_done closed n) w = ends_here closed n x rest why p w
follows_to x rest why p (goes_on closed n y xs _ q ps v f) w =
    goes_on closed n y (xs ++ x ∷ rest) (Some why) q (ps ++ p ∷ []) v (follows_to x rest why p f w)

-- each order wrote a part
follows_long : {full closed : Bool} {n : ℕ} {xs : List Order} {ps : List Part}
    → Follows full closed n xs None ps → length ps ≡ length xs
follows_long (all_done closed n) = refl
follows_long (goes_on closed n y xs _ q ps v f) = ap suc (follows_long f)

-- the gate was asked before one line more
pub asked_more : (asked : ℕ → Type 0) (i : ℕ) → ((k : ℕ) → k < i → asked (line_number k))
    → asked (line_number i) → (k : ℕ) → k < i + 1 → asked (line_number k)
asked_more asked i before now k below = elim (leb_tells i k) [
  | inl at ↦ subst
      (λ j. asked (line_number j)) (omega (arith, at.1, below)) now
  | inr less ↦ before k less.1
]

-- these orders were carried out, and none ended the script
pub record HasFollowed (full : Bool) (orders : List Order) (caller : CallerView)
    (log : AgentLog) : Type 0 where
  pub parts : List Part
  pub made : IsMadeOf parts log
  pub follows : Follows full false 0 orders None parts
  pub closed : caller.closed ≡ closed_after false orders
  pub posted : length log.posted.items ≡ posted_after 0 parts
  pub rest : IsAtRest log
  pub not_stopped : log.stopped ≡ None

pub nothing_followed : (full : Bool) (caller : CallerView) (log : AgentLog) → IsEmptyLog log
    → caller ≡ new_caller → HasFollowed full [] caller log
nothing_followed full caller log empty new = record {
  parts = [];
  made = record {
    posted = empty.posted;
    read = empty.read;
    taken = empty.p2a;
    lines = empty.lines;
    reply_looks = empty.reply_looks;
    message_looks = empty.message_looks;
  };
  follows = all_done false 0;
  closed = ap (λ v. v.closed) new;
  posted = ap length empty.posted;
  rest = ap length empty.posted ∙ sym (ap length empty.read);
  not_stopped = empty.stopped;
}

one_more : {X : Type 0} (f : Part → List X) (ps : List Part) (p : Part) (old new : List X)
    → old ≡ flat_map f ps → new ≡ old ++ f p → new ≡ flat_map f (ps ++ p ∷ [])
one_more f ps p old new is e = e ∙ ap (λ xs. xs ++ f p) is
    ∙ sym (flat_map-append f ps (p ∷ []) ∙ ap (λ xs. flat_map f ps ++ xs) (append-nil (f p)))

one_sum : (f : Part → ℕ) (p : Part) → sum_by f (p ∷ []) ≡ f p
one_sum f p = omega arith

-- more polls, modulo 2^64
more_looks : (f : Part → ℕ) (ps : List Part) (p : Part) (old new : ℕ) → old ≡ sum_by f ps % 2 ^ 64
    → new ≡ more_calls (f p) old → new ≡ sum_by f (ps ++ p ∷ []) % 2 ^ 64
more_looks f ps p old new is e = e ∙ ap (more_calls (f p)) is ∙ calls_of_sum (f p) (sum_by f ps)
    ∙ ap (λ n. n % 2 ^ 64)
    (sym (sum_by-append f ps (p ∷ []) ∙ ap (λ n. sum_by f ps + n) (one_sum f p)))

made_more : (ps : List Part) (p : Part) (before after : AgentLog) → IsMadeOf ps before
    → HasMore p before after → IsMadeOf (ps ++ p ∷ []) after
made_more ps p before after made more = record {
  posted =
      one_more (λ q. q.posted) ps p before.posted.items after.posted.items made.posted more.posted;
  read = one_more (λ q. q.read) ps p before.read.items after.read.items made.read more.read;
  taken = one_more (λ q. q.taken) ps p before.p2a.items after.p2a.items made.taken more.taken;
  lines = one_more (λ q. q.lines) ps p before.lines.items after.lines.items made.lines more.lines;
  reply_looks = more_looks (λ q. q.reply_looks) ps p before.reply_looks after.reply_looks
      made.reply_looks more.reply_looks;
  message_looks = more_looks (λ q. q.message_looks) ps p before.message_looks after.message_looks
      made.message_looks more.message_looks;
}

writes_after : (full : Bool) (xs : List Order) (x : Order) (s : Option Stop) (v w : CallerView)
    (before after : AgentLog) (f : HasFollowed full xs v before) (d : HasDone full x s v w before
    after) → Writes full (closed_after false xs) (posted_after 0 f.parts) x s d.part
writes_after full xs x s v w before after f d = subst (λ c. Writes full c (posted_after 0 f.parts) x
    s d.part) f.closed (subst (λ n. Writes full v.closed n x s d.part) f.posted d.writes)

pub followed_more : (full : Bool) (xs : List Order) (x : Order) (v w : CallerView)
    (before after : AgentLog) → HasFollowed full xs v before → HasDone full x None v w before after
    → HasFollowed full (xs ++ x ∷ []) w after
followed_more full xs x v w before after f d =
    let many : length after.posted.items ≡ length before.posted.items + length d.part.posted =
    ap length d.more.posted ∙ length-append before.posted.items d.part.posted in
    record {
      parts = f.parts ++ d.part ∷ [];
      made = made_more f.parts d.part before after f.made d.more;
      follows = follows_more x d.part f.follows (writes_after full xs x None v w before after f d);
      closed = d.closed refl ∙ ap (λ c. is_close x || c) f.closed ∙ sym (closed_push false xs x);
      posted = many ∙ ap (λ n. n + length d.part.posted) f.posted
          ∙ sym (posted_push 0 f.parts d.part);
      rest = many ∙ ap₂ (λ m n. m + n) f.rest
          (writes_rest full v.closed (length before.posted.items) x d.part d.writes)
          ∙ sym (ap length d.more.read ∙ length-append before.read.items d.part.read);
      not_stopped = d.not_stopped ∙ f.not_stopped;
    }

pub followed_to : (full : Bool) (asked : ℕ → Type 0) (script xs rest : List Order) (x : Order)
    (why : Stop) (v w : CallerView) (before mid after : AgentLog) → xs ++ x ∷ rest ≡ script
    → HasFollowed full xs v before → HasDone full x (Some why) v w before mid → after.posted.items
    ≡ mid.posted.items → after.read.items ≡ mid.read.items → after.p2a.items ≡ mid.p2a.items
    → after.lines.items ≡ mid.lines.items → HasSameLooks mid after → after.stopped ≡ Some why
    → ((k : ℕ) → k < length xs + 1 → asked (line_number k)) → IsGatedLog full asked script after
followed_to full asked script xs rest x why v w before mid after is f d p r t l k s gate =
    let made = made_more f.parts d.part before mid f.made d.more in
    let script_log : IsScriptLog full script after = record {
      parts = f.parts ++ d.part ∷ [];
      made = record {
        posted = p ∙ made.posted;
        read = r ∙ made.read;
        taken = t ∙ made.taken;
        lines = l ∙ made.lines;
        reply_looks = k.replies ∙ made.reply_looks;
        message_looks = k.messages ∙ made.message_looks;
      };
      follows = subst (λ o. Follows full false 0 script o (f.parts ++ d.part ∷ [])) (sym s)
          (subst (λ os. Follows full false 0 os (Some why) (f.parts ++ d.part ∷ [])) is (follows_to
          x rest why d.part f.follows (writes_after full xs x (Some why) v w before mid f d)));
    } in
    record {
      script = script_log;
      gate = λ k below. gate k
          (omega (arith, below, length-append f.parts (d.part ∷ []), follows_long f.follows));
    }

pub followed_all : (full : Bool) (asked : ℕ → Type 0) (xs : List Order) (v : CallerView)
    (log : AgentLog) → HasFollowed full xs v log → ((k : ℕ) → k < length xs → asked (line_number k))
    → IsGatedLog full asked xs log
followed_all full asked xs v log f gate =
    let script_log : IsScriptLog full xs log = record {
      parts = f.parts;
      made = f.made;
      follows = subst (λ o. Follows full false 0 xs o f.parts) (sym f.not_stopped) f.follows;
    } in
    record {
      script = script_log;
      gate = λ k below. gate k (omega (arith, below, follows_long f.follows));
    }

-- the orders up to the i-th, and the others

pub take_next : (xs : List Order) (i : ℕ) (x : Order) → i < length xs → x ≡ get_or xs i x
    → take i xs ++ x ∷ [] ≡ take (i + 1) xs
take_next xs i x below is = ap (λ y. take i xs ++ y ∷ []) is ∙ sym (take_more xs i x below)

pub all_orders : (xs : List Order) (i : ℕ) (x : Order) → i < length xs → x ≡ get_or xs i x
    → take i xs ++ x ∷ drop (i + 1) xs ≡ xs
all_orders xs i x below is = ap (λ y. take i xs ++ y ∷ drop (i + 1) xs) is
    ∙ ap (λ ys. take i xs ++ ys) (sym (drop_more xs i x below)) ∙ take-append-drop i xs

pub whole : (xs : List Order) (i : ℕ) → length xs ≤ i → take i xs ≡ xs
whole xs i le = take_all i xs le
