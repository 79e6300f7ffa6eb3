-- What an order's calls leave, put together.
use Rattle.std.proofs.Common.{◌≡◌, ℕ, suc, ◌+◌, ◌<◌, Bool, true, false, not, List, [], ◌∷◌, ◌++◌, length, map, Option, Some, None, Result, Ok, Err, refl, sym, ap, ◌∙◌, subst, arith, rules, add-one, zero, append_assoc}
use Rattle.std.specs.List.{All}
use Rattle.std.proofs.lemmas.List.{append-nil, length-append, map-append, length-map}
use Rattle.std.proofs.lemmas.List.Elements.{All-nil, All-push}
use Rattle.arrayvec.specs.ArrayVec.{ArrayVec}
use Rattle.scmi_codec.specs.declared.message.Message.{Message}
use Rattle.scmi_codec.specs.declared.frame.Frame.{Frame}
use Rattle.scmi_codec.specs.declared.frame.Answer.TheVariants.{Reply, ChannelError}
use Rattle.scmi_link.specs.View.{CallerView, IsOutstanding}
use Rattle.scmi_link.specs.declared.closing.Closing.TheVariants.{Idle, Withdrawn}
use Rattle.scmi_link.specs.declared.closing.Closing.{Closing}
use Rattle.scmi_link.specs.declared.post_error.PostError.{PostError}
use Rattle.scmi_link.specs.declared.post_error.PostError.TheVariants as post
use Rattle.scmi_link.specs.Scripts.{IsForNothing}
use Rattle.scmi_link.specs.declared.line.Line.{Line}
use Rattle.scmi_link.specs.declared.line.Line.TheVariants as line
use Rattle.scmi_link.specs.declared.order.Order.{Order}
use Rattle.scmi_link.specs.declared.order.Order.TheVariants as order
use Rattle.scmi_threads.specs.Logs.{HasSameLooks, IsSameLog}
use Rattle.scmi_threads.specs.Orders.{IsAtRest, LeavesRest, HasAsked, HasAskedFor, HasLooked, HasWaited, HasMore, HasDone, IsUnmoved, HasLookedFor, HasTaken, IsGot, IsRefusal, ShowsState, ending, stop_of, stop_of_seen, lines_of_seen}
use Rattle.scmi_threads.specs.Parts.{Part, AreLooksOf, HasState, Writes, only_lines, of_calls, of_messages, command, state_commands, CallWrites, call_answered, call_did_not_fit, call_found_no_place, call_ran_out, call_had_no_room, UntilWrites, state_seen, state_not_seen, state_ran_out, state_found_no_place, state_had_no_room, P2aWrites, messages_taken, messages_ran_out, messages_had_no_room, CloseWrites, close_done, close_had_no_room, ClosedWrites, call_refused, state_refused, none_asked_for, none_came, closed_again, line_had_no_room}
use Rattle.scmi_ends.specs.Poll.{more_calls}
use Rattle.scmi_ends.proofs.Counts.{no_calls}
use Rattle.scmi_threads.proofs.Looking.{none_counted, then_counted, counted_since, no_waits, one_wait_more}
use Rattle.scmi_threads.specs.declared.agent_log.AgentLog.{AgentLog}
use Rattle.scmi_threads.specs.declared.limits.TheConstants.{TURNS, CALLS}
use Rattle.scmi_threads.specs.declared.stop.Stop.{Stop}
use Rattle.scmi_threads.specs.declared.stop.Stop.TheVariants as stop

-- a list and its last

none_more : {X : Type 0} (xs ys : List X) → ys ≡ xs → ys ≡ xs ++ []
none_more xs ys e = e ∙ sym (append-nil xs)

no_true : {A : Type 0} → false ≡ true → A
no_true e = absurd cc

no_false : {A : Type 0} → true ≡ false → A
no_false e = absurd cc

not_both : {A : Type 0} (b : Bool) → b ≡ true → b ≡ false → A
not_both true t f = no_false f
not_both false t f = no_true t

-- what an order writes, by whether the script has closed

-- an order of a script that has not closed
while_open : (full closed : Bool) (n : ℕ) (o : Order) (s : Option Stop) (part : Part)
    → closed ≡ false → Writes full false n o s part → Writes full closed n o s part
while_open full closed n o s part is w = subst (λ b. Writes full b n o s part) (sym is) w

-- nothing, when out of memory
no_room : (full closed : Bool) (n : ℕ) (o : Order) → ¬ (IsForNothing o)
    → Writes full closed n o (Some stop.Memory) (only_lines [])
no_room full true n o some = line_had_no_room o some
no_room full false n (order.Call protocol id payload) some = call_had_no_room
no_room full false n (order.Until domain state) some =
    state_had_no_room [] (omega arith) (All-nil (λ reply. ¬ (HasState state reply))) 0 no_waits
no_room full false n (order.P2a zero) some = absurd (some refl)
no_room full false n (order.P2a (suc count)) some = messages_had_no_room [] (omega arith) 0 no_waits
no_room full false n order.Close some = close_had_no_room

-- a call that was refused
refused_call : (full closed : Bool) (n protocol id : ℕ) (payload : ArrayVec ℕ) (error : PostError)
    → IsRefusal full closed error → Writes full closed n (order.Call protocol id payload) None
    (only_lines (line.NotPosted error ∷ []))
refused_call full true n protocol id payload post.Closed why = call_refused protocol id payload
refused_call full false n protocol id payload post.Closed why = no_true why
refused_call full true n protocol id payload post.Full why = no_false why.0
refused_call full false n protocol id payload post.Full why = call_found_no_place why.1
refused_call full closed n protocol id payload _ why = absurd why

-- a close
close_writes : (full closed : Bool) (n : ℕ)
    → Writes full closed n order.Close None (only_lines (line.Close Idle ∷ []))
close_writes full true n = closed_again
close_writes full false n = close_done

-- the polls of waits that were each answered
same_waits : (m n looks : ℕ) → m ≡ n → AreLooksOf n looks → AreLooksOf m looks
same_waits m n looks is of_each = subst (λ k. AreLooksOf k looks) (sym is) of_each

no_looks : (n looks : ℕ) → n ≡ 0 → AreLooksOf n looks → looks ≡ 0
no_looks n looks is of_each = omega (arith, is, of_each.most)

-- this many messages, and then none if the script has closed
module _ (full : Bool) (n count taken looks : ℕ) where
  messages_write : (closed : Bool) (messages : List Frame) → (closed ≡ true → taken ≡ 0)
      → length messages ≡ taken → AreLooksOf taken looks → taken ≡ count → Writes full closed n
      (order.P2a count) None (of_messages messages (map line.P2a messages) looks)
  messages_write false messages unclosed many of_each is = messages_taken messages (many ∙ is) looks
      (same_waits (length messages) taken looks many of_each)
  messages_write true [] unclosed many of_each is = subst (λ k. ClosedWrites (order.P2a count) None
      (of_messages [] [] k)) (sym (no_looks taken looks (unclosed refl) of_each))
      (none_asked_for count (sym is ∙ unclosed refl))
  messages_write true (m ∷ messages) unclosed many of_each is =
      absurd (omega (arith, many, unclosed refl))

  limit_writes : (closed : Bool) (messages : List Frame) → (closed ≡ true → taken ≡ 0)
      → length messages ≡ taken → AreLooksOf taken looks → taken < count
      → Writes full closed n (order.P2a count) (Some stop.Limit)
      (of_messages messages (map line.P2a messages ++ line.Limit ∷ []) (looks + TURNS))
  limit_writes false messages unclosed many of_each below = messages_ran_out messages
      (omega (arith, many, below)) looks (same_waits (length messages) taken looks many of_each)
  limit_writes true [] unclosed many of_each below = subst (λ k. ClosedWrites (order.P2a count)
      (Some stop.Limit) (of_messages [] (line.Limit ∷ []) (k + TURNS)))
      (sym (no_looks taken looks (unclosed refl) of_each)) (none_came count (omega (arith, below)))
  limit_writes true (m ∷ messages) unclosed many of_each below =
      absurd (omega (arith, many, unclosed refl))

  memory_writes : (closed : Bool) (messages : List Frame) → (closed ≡ true → taken ≡ 0)
      → length messages ≡ taken → AreLooksOf taken looks → taken < count → Writes full closed n
      (order.P2a count) (Some stop.Memory) (of_messages messages (map line.P2a messages) looks)
  memory_writes false messages unclosed many of_each below = messages_had_no_room messages
      (omega (arith, many, below)) looks (same_waits (length messages) taken looks many of_each)
  memory_writes true [] unclosed many of_each below = subst (λ k. ClosedWrites (order.P2a count)
      (Some stop.Memory) (of_messages [] [] k)) (sym (no_looks taken looks (unclosed refl) of_each))
      (line_had_no_room (order.P2a count) (λ none. absurd (omega (arith, none, below))))
  memory_writes true (m ∷ messages) unclosed many of_each below =
      absurd (omega (arith, many, unclosed refl))

-- this many calls that asked for a state, none of them once the script has closed
module _ (full : Bool) (n domain state k looks : ℕ) where
  refused_look : (closed : Bool) (others : List Message) (error : PostError)
      → (closed ≡ true → k ≡ 0) → length others ≡ k → AreLooksOf k looks
      → k < CALLS → All (λ reply. ¬ (HasState state reply)) others → IsRefusal full closed error
      → Writes full closed n (order.Until domain state) (Some stop.Limit) (of_calls
      (state_commands n domain (length others)) (map Reply others) (line.UntilLimit ∷ []) looks)
  refused_look false others post.Full unclosed many of_each below none why =
      state_found_no_place others (omega (arith, many, below)) none why.1 looks
      (same_waits (length others) k looks many of_each)
  refused_look true others post.Full unclosed many of_each below none why = no_false why.0
  refused_look false others post.Closed unclosed many of_each below none why = no_true why
  refused_look true [] post.Closed unclosed many of_each below none why = subst (λ l. ClosedWrites
      (order.Until domain state) (Some stop.Limit) (of_calls [] [] (line.UntilLimit ∷ []) l))
      (sym (no_looks k looks (unclosed refl) of_each)) (state_refused domain state)
  refused_look true (m ∷ others) post.Closed unclosed many of_each below none why =
      absurd (omega (arith, many, unclosed refl))
  refused_look closed others _ unclosed many of_each below none why = absurd why

  last_look : (closed : Bool) (others : List Message) → (closed ≡ true → k ≡ 0) → length others ≡ k
      → AreLooksOf k looks → k ≡ CALLS → All (λ reply. ¬ (HasState state reply)) others
      → Writes full closed n (order.Until domain state) (Some stop.Limit) (of_calls
      (state_commands n domain (length others)) (map Reply others) (line.UntilLimit ∷ []) looks)
  last_look false others unclosed many of_each is none =
      state_not_seen others (many ∙ is) none looks (same_waits (length others) k looks many of_each)
  last_look true others unclosed many of_each is none = absurd (omega (arith, is, unclosed refl))

  look_without_room : (closed : Bool) (others : List Message) → (closed ≡ true → k ≡ 0)
      → length others ≡ k → AreLooksOf k looks → k < CALLS → All (λ reply. ¬ (HasState state reply))
      others → Writes full closed n (order.Until domain state) (Some stop.Memory)
      (of_calls (state_commands n domain (length others)) (map Reply others) [] looks)
  look_without_room false others unclosed many of_each below none = state_had_no_room others
      (omega (arith, many, below)) none looks (same_waits (length others) k looks many of_each)
  look_without_room true [] unclosed many of_each below none =
      subst (λ l. ClosedWrites (order.Until domain state) (Some stop.Memory) (of_calls [] [] [] l))
      (sym (no_looks k looks (unclosed refl) of_each))
      (line_had_no_room (order.Until domain state) (λ x. x))
  look_without_room true (m ∷ others) unclosed many of_each below none =
      absurd (omega (arith, many, unclosed refl))

-- nothing was posted, read or taken
pub record IsStill (part : Part) : Type 0 where
  pub posted : part.posted ≡ []
  pub read : part.read ≡ []
  pub taken : part.taken ≡ []

pub stays_still : (o : Order) (s : Option Stop) (part : Part) → ClosedWrites o s part → IsStill part
stays_still _ _ _ (call_refused protocol id payload) =
    record { posted = refl; read = refl; taken = refl }
stays_still _ _ _ (state_refused domain state) = record { posted = refl; read = refl; taken = refl }
stays_still _ _ _ (none_asked_for count none) = record { posted = refl; read = refl; taken = refl }
stays_still _ _ _ (none_came count some) = record { posted = refl; read = refl; taken = refl }
stays_still _ _ _ closed_again = record { posted = refl; read = refl; taken = refl }
stays_still _ _ _ (line_had_no_room o some) = record { posted = refl; read = refl; taken = refl }

-- nothing is outstanding if each post has its answer
pub rests : (v : CallerView) → length v.posted ≡ length v.read → ¬ (IsOutstanding v)
rests v h out = absurd (omega (arith, h, out.unread))

nothing_more : (before after : AgentLog) → IsSameLog before after
    → HasMore (only_lines []) before after
nothing_more before after same = record {
  posted = none_more before.posted.items after.posted.items same.posted;
  read = none_more before.read.items after.read.items same.read;
  taken = none_more before.p2a.items after.p2a.items same.p2a;
  lines = none_more before.lines.items after.lines.items same.lines;
  reply_looks = none_counted before.reply_looks after.reply_looks same.looks.replies;
  message_looks = none_counted before.message_looks after.message_looks same.looks.messages;
}

-- memory was refused before anything was done
pub nothing_done : (full : Bool) (o : Order) (r : Result (Unit {0}) Stop) (v w : CallerView)
    (before after : AgentLog) → r ≡ Err stop.Memory → ¬ (IsForNothing o) → IsSameLog before after
    → HasDone full o (stop_of r) v w before after
nothing_done full o r v w before after is some same =
    subst (λ x. HasDone full o (stop_of x) v w before after) (sym is) (record {
      part = only_lines [];
      writes = no_room full v.closed (length before.posted.items) o some;
      more = nothing_more before after same;
      closed = λ s. absurd (search (rules, s));
      not_stopped = same.stopped;
    })

-- the same since an earlier log that says the same
pub done_since : (full : Bool) (o : Order) (s : Option Stop) (v w : CallerView)
    (first before after : AgentLog) → IsSameLog first before → HasDone full o s v w before after
    → HasDone full o s v w first after
done_since full o s v w first before after same done = record {
  part = done.part;
  writes = subst (λ fs. Writes full v.closed (length fs) o s done.part) same.posted done.writes;
  more = record {
    posted = done.more.posted ∙ ap (λ xs. xs ++ done.part.posted) same.posted;
    read = done.more.read ∙ ap (λ xs. xs ++ done.part.read) same.read;
    taken = done.more.taken ∙ ap (λ xs. xs ++ done.part.taken) same.p2a;
    lines = done.more.lines ∙ ap (λ xs. xs ++ done.part.lines) same.lines;
    reply_looks = counted_since done.part.reply_looks first.reply_looks before.reply_looks
        after.reply_looks same.looks.replies done.more.reply_looks;
    message_looks = counted_since done.part.message_looks first.message_looks before.message_looks
        after.message_looks same.looks.messages done.more.message_looks;
  };
  closed = done.closed;
  not_stopped = done.not_stopped ∙ same.stopped;
}

pub still_rests : (before after : AgentLog) → IsSameLog before after → IsAtRest before
    → IsAtRest after
still_rests before after same rest = ap length same.posted ∙ rest ∙ sym (ap length same.read)

-- the lines alone have grown, by one
pub record IsNoted (l : Line) (before after : AgentLog) : Type 0 where
  pub posted : after.posted.items ≡ before.posted.items
  pub read : after.read.items ≡ before.read.items
  pub taken : after.p2a.items ≡ before.p2a.items
  pub lines : after.lines.items ≡ before.lines.items ++ l ∷ []
  pub stopped : after.stopped ≡ before.stopped
  pub looks : HasSameLooks before after

-- the same since an earlier log that says the same
pub noted_since : (l : Line) (before mid after : AgentLog) → IsSameLog before mid
    → IsNoted l mid after → IsNoted l before after
noted_since l before mid after same noted = record {
  posted = noted.posted ∙ same.posted;
  read = noted.read ∙ same.read;
  taken = noted.taken ∙ same.p2a;
  lines = noted.lines ∙ ap (λ ls. ls ++ l ∷ []) same.lines;
  stopped = noted.stopped ∙ same.stopped;
  looks = record {
    replies = noted.looks.replies ∙ same.looks.replies;
    messages = noted.looks.messages ∙ same.looks.messages;
  };
}

noted_more : (l : Line) (before mid after : AgentLog) → mid.lines.items ≡ before.lines.items
    → IsNoted l mid after → after.lines.items ≡ before.lines.items ++ l ∷ []
noted_more l before mid after same noted = noted.lines ∙ ap (λ ls. ls ++ l ∷ []) same

-- a call's polls, and none for a message

module _ (full : Bool) (protocol id : ℕ) (payload : ArrayVec ℕ) (v w : CallerView)
    (before mid after : AgentLog) (rest : LeavesRest v w before mid) where
  no_message_looks : HasSameLooks mid after
      → after.message_looks ≡ more_calls 0 before.message_looks
  no_message_looks same =
      none_counted before.message_looks after.message_looks (same.messages ∙ rest.message_looks)

  pub call_done : (l : Line) → HasAsked full v.closed (command (length before.posted.items)
      protocol id payload) l before mid → mid.lines.items ≡ before.lines.items → IsNoted l mid after
      → HasDone full (order.Call protocol id payload) (stop_of (ending l)) v w before after
  call_done (line.Got words) asked same noted =
      let part : Part = of_calls (command (length before.posted.items) protocol id payload ∷ [])
      (Reply asked.2.0 ∷ []) (line.Got asked.2.0.payload ∷ []) asked.3.looks in
      record {
        part = part;
        writes = while_open full v.closed (length before.posted.items) (order.Call protocol id
            payload) None part asked.0 (call_answered asked.2.0 asked.3.looks asked.3.many);
        more = record {
          posted = noted.posted ∙ asked.1;
          read = noted.read ∙ asked.2.2;
          taken = none_more before.p2a.items after.p2a.items (noted.taken ∙ rest.taken);
          lines = noted_more (line.Got words) before mid after same noted
              ∙ ap (λ ws. before.lines.items ++ line.Got ws ∷ []) asked.2.1;
          reply_looks = noted.looks.replies ∙ asked.3.counted;
          message_looks = no_message_looks noted.looks;
        };
        closed = λ s. rest.closed;
        not_stopped = noted.stopped ∙ rest.stopped;
      }
  call_done line.Error asked same noted =
      let part : Part = of_calls (command (length before.posted.items) protocol id payload ∷ [])
      (ChannelError ∷ []) (line.Error ∷ []) asked.3.looks in
      record {
        part = part;
        writes = while_open full v.closed (length before.posted.items) (order.Call protocol id
            payload) None part asked.0 (call_did_not_fit asked.2.0 asked.3.looks asked.3.many);
        more = record {
          posted = noted.posted ∙ asked.1;
          read = noted.read ∙ asked.2.1;
          taken = none_more before.p2a.items after.p2a.items (noted.taken ∙ rest.taken);
          lines = noted_more line.Error before mid after same noted;
          reply_looks = noted.looks.replies ∙ asked.3.counted;
          message_looks = no_message_looks noted.looks;
        };
        closed = λ s. rest.closed;
        not_stopped = noted.stopped ∙ rest.stopped;
      }
  call_done (line.NotPosted error) asked same noted = record {
    part = only_lines (line.NotPosted error ∷ []);
    writes =
        refused_call full v.closed (length before.posted.items) protocol id payload error asked.0;
    more = record {
      posted = none_more before.posted.items after.posted.items (noted.posted ∙ asked.1);
      read = none_more before.read.items after.read.items (noted.read ∙ asked.2);
      taken = none_more before.p2a.items after.p2a.items (noted.taken ∙ rest.taken);
      lines = noted_more (line.NotPosted error) before mid after same noted;
      reply_looks =
          none_counted before.reply_looks after.reply_looks (noted.looks.replies ∙ asked.3);
      message_looks = no_message_looks noted.looks;
    };
    closed = λ s. rest.closed;
    not_stopped = noted.stopped ∙ rest.stopped;
  }
  call_done line.Limit asked same noted =
      let part : Part = of_calls (command (length before.posted.items) protocol id payload ∷ []) []
      (line.Limit ∷ []) TURNS in
      record {
        part = part;
        writes = while_open full v.closed (length before.posted.items)
            (order.Call protocol id payload) (Some stop.Limit) part asked.0 call_ran_out;
        more = record {
          posted = noted.posted ∙ asked.1;
          read = none_more before.read.items after.read.items (noted.read ∙ asked.2);
          taken = none_more before.p2a.items after.p2a.items (noted.taken ∙ rest.taken);
          lines = noted_more line.Limit before mid after same noted;
          reply_looks = noted.looks.replies ∙ asked.3.counted
              ∙ ap (λ k. more_calls k before.reply_looks) asked.3.many;
          message_looks = no_message_looks noted.looks;
        };
        closed = λ s. rest.closed;
        not_stopped = noted.stopped ∙ rest.stopped;
      }
  call_done _ asked same noted = absurd asked.2

-- a close

pub close_noted : (full : Bool) (closing : Closing) (v w : CallerView) (before after : AgentLog)
    → IsNoted (line.Close closing) before after → (closing ≡ Idle → w.closed ≡ true)
    → (closing ≡ Withdrawn → IsOutstanding v) → length v.posted ≡ length v.read
    → HasDone full order.Close None v w before after
close_noted full Withdrawn v w before after noted idle withdrawn rest =
    absurd (rests v rest (withdrawn refl))
close_noted full Idle v w before after noted idle withdrawn rest = record {
  part = only_lines (line.Close Idle ∷ []);
  writes = close_writes full v.closed (length before.posted.items);
  more = record {
    posted = none_more before.posted.items after.posted.items noted.posted;
    read = none_more before.read.items after.read.items noted.read;
    taken = none_more before.p2a.items after.p2a.items noted.taken;
    lines = noted.lines;
    reply_looks = none_counted before.reply_looks after.reply_looks noted.looks.replies;
    message_looks = none_counted before.message_looks after.message_looks noted.looks.messages;
  };
  closed = λ s. idle refl;
  not_stopped = noted.stopped;
}

-- messages

-- this many messages were taken, none of them by an endpoint that has closed, and each has its line
-- and its polls
pub record HasTakenMany (closed : Bool) (count : ℕ) (before after : AgentLog) : Type 0 where
  pub messages : List Frame
  pub many : length messages ≡ count
  pub unclosed : closed ≡ true → count ≡ 0
  pub taken : after.p2a.items ≡ before.p2a.items ++ messages
  pub lines : after.lines.items ≡ before.lines.items ++ map line.P2a messages
  pub looks : ℕ
  pub of_each : AreLooksOf count looks
  pub counted : after.message_looks ≡ more_calls looks before.message_looks

pub none_taken : (closed : Bool) (before after : AgentLog) → after.p2a.items ≡ before.p2a.items
    → after.lines.items ≡ before.lines.items → after.message_looks ≡ before.message_looks
    → HasTakenMany closed 0 before after
none_taken closed before after taken lines looks = record {
  messages = [];
  many = refl;
  unclosed = λ is. refl;
  taken = none_more before.p2a.items after.p2a.items taken;
  lines = none_more before.lines.items after.lines.items lines;
  looks = 0;
  of_each = no_waits;
  counted = none_counted before.message_looks after.message_looks looks;
}

pub one_taken : (closed mid_closed : Bool) (count : ℕ) (before mid after : AgentLog) → mid_closed
    ≡ closed → HasTakenMany closed count before mid → HasTaken mid_closed (Ok tt) mid after
    → HasLookedFor (Ok tt) mid after → HasTakenMany closed (count + 1) before after
one_taken closed mid_closed count before mid after same so_far took looked = record {
  messages = so_far.messages ++ took.message ∷ [];
  many = length-append so_far.messages (took.message ∷ []) ∙ ap (λ n. n + 1) so_far.many;
  unclosed = λ is. not_both closed is (sym same ∙ took.unclosed);
  taken = took.taken ∙ ap (λ xs. xs ++ took.message ∷ []) so_far.taken
      ∙ append_assoc before.p2a.items so_far.messages (took.message ∷ []);
  lines = took.lines ∙ ap (λ xs. xs ++ line.P2a took.message ∷ []) so_far.lines
      ∙ append_assoc before.lines.items (map line.P2a so_far.messages) (line.P2a took.message ∷ [])
      ∙ ap (λ xs. before.lines.items ++ xs)
      (sym (map-append line.P2a so_far.messages (took.message ∷ [])));
  looks = so_far.looks + looked.looks;
  of_each = one_wait_more count so_far.looks looked.looks so_far.of_each looked.many;
  counted = then_counted so_far.looks looked.looks before.message_looks mid.message_looks
      after.message_looks so_far.counted looked.counted;
}

pub moved_on : (u v w : CallerView) (before mid after : AgentLog) → IsUnmoved u v before mid
    → IsUnmoved v w mid after → IsUnmoved u w before after
moved_on u v w before mid after r s =
    record {
      posted = s.posted ∙ r.posted;
      read = s.read ∙ r.read;
      stopped = s.stopped ∙ r.stopped;
      closed = s.closed ∙ r.closed;
      reply_looks = s.reply_looks ∙ r.reply_looks;
    }

pub all_taken : (full : Bool) (count taken : ℕ) (v w : CallerView) (before after : AgentLog)
    → taken ≡ count → IsUnmoved v w before after → HasTakenMany v.closed taken before after
    → HasDone full (order.P2a count) None v w before after
all_taken full count taken v w before after is unmoved took = record {
  part = of_messages took.messages (map line.P2a took.messages) took.looks;
  writes = messages_write full (length before.posted.items) count taken took.looks v.closed
      took.messages took.unclosed took.many took.of_each is;
  more = record {
    posted = none_more before.posted.items after.posted.items unmoved.posted;
    read = none_more before.read.items after.read.items unmoved.read;
    taken = took.taken;
    lines = took.lines;
    reply_looks = none_counted before.reply_looks after.reply_looks unmoved.reply_looks;
    message_looks = took.counted;
  };
  closed = λ s. unmoved.closed;
  not_stopped = unmoved.stopped;
}

pub taken_until : (full : Bool) (count taken : ℕ) (why : Stop) (r : Result (Unit {0}) Stop)
    (u v w : CallerView) (before mid after : AgentLog) → taken < count → r ≡ Err why
    → IsUnmoved u v before mid → HasTakenMany u.closed taken before mid → IsUnmoved v w mid after
    → HasTaken v.closed (Err why) mid after → HasLookedFor (Err why) mid after
    → HasDone full (order.P2a count) (stop_of r) u w before after
taken_until full count taken why r u v w before mid after below is first so_far then' took looked =
    subst (λ x. HasDone full (order.P2a count) (stop_of x) u w before after) (sym is)
    (go why took looked) where
      same : IsUnmoved u w before after
      same = moved_on u v w before mid after first then'

      go : (why : Stop) → HasTaken v.closed (Err why) mid after → HasLookedFor (Err why) mid after
          → HasDone full (order.P2a count) (Some why) u w before after
      go stop.Limit took looked = record {
        part = of_messages so_far.messages (map line.P2a so_far.messages ++ line.Limit ∷ [])
            (so_far.looks + TURNS);
        writes = limit_writes full (length before.posted.items) count taken so_far.looks u.closed
            so_far.messages so_far.unclosed so_far.many so_far.of_each below;
        more = record {
          posted = none_more before.posted.items after.posted.items same.posted;
          read = none_more before.read.items after.read.items same.read;
          taken = took.0 ∙ so_far.taken;
          lines = took.1 ∙ ap (λ ls. ls ++ line.Limit ∷ []) so_far.lines
              ∙ append_assoc before.lines.items (map line.P2a so_far.messages) (line.Limit ∷ []);
          reply_looks = none_counted before.reply_looks after.reply_looks same.reply_looks;
          message_looks =
              then_counted so_far.looks TURNS before.message_looks mid.message_looks
              after.message_looks
              so_far.counted
              (looked.counted ∙ ap (λ k. more_calls k mid.message_looks) looked.many);
        };
        closed = λ s. same.closed;
        not_stopped = same.stopped;
      }
      go stop.Memory took looked = record {
        part = of_messages so_far.messages (map line.P2a so_far.messages) so_far.looks;
        writes = memory_writes full (length before.posted.items) count taken so_far.looks u.closed
            so_far.messages so_far.unclosed so_far.many so_far.of_each below;
        more = record {
          posted = none_more before.posted.items after.posted.items same.posted;
          read = none_more before.read.items after.read.items same.read;
          taken = took.0 ∙ so_far.taken;
          lines = took.1 ∙ so_far.lines;
          reply_looks = none_counted before.reply_looks after.reply_looks same.reply_looks;
          message_looks = looked.counted ∙ ap (λ k. more_calls k mid.message_looks) looked.many
              ∙ no_calls mid.message_looks ∙ so_far.counted;
        };
        closed = λ s. same.closed;
        not_stopped = same.stopped;
      }

-- states

length-state_commands : (n domain k : ℕ) → length (state_commands n domain k) ≡ k
length-state_commands n domain zero = refl
length-state_commands n domain (suc k) = length-append
    (state_commands n domain k) (command (n + k) 0x11 0x5 (record { items = domain ∷ [] }) ∷ [])
    ∙ ap (λ m. m + 1) (length-state_commands n domain k) ∙ add-one k

state_commands_more : (n domain k : ℕ) → state_commands n domain (k + 1)
    ≡ state_commands n domain k ++ command (n + k) 0x11 0x5 (record { items = domain ∷ [] }) ∷ []
state_commands_more n domain k = ap (state_commands n domain) (add-one k)

pub none_asked : (closed : Bool) (domain state : ℕ) (before after : AgentLog)
    → IsSameLog before after → HasAskedFor closed domain state 0 before after
none_asked closed domain state before after same = record {
  others = [];
  many = refl;
  unclosed = λ is. refl;
  none_has_it = All-nil (λ reply. ¬ (HasState state reply));
  posted = none_more before.posted.items after.posted.items same.posted;
  read = none_more before.read.items after.read.items same.read;
  looks = 0;
  of_each = no_waits;
  counted = none_counted before.reply_looks after.reply_looks same.looks.replies;
}

asked_posted : {closed : Bool} (domain state k : ℕ) (before mid : AgentLog) → HasAskedFor closed
    domain state k before mid → length mid.posted.items ≡ length before.posted.items + k
asked_posted domain state k before mid so_far = ap length so_far.posted
    ∙ length-append before.posted.items (state_commands (length before.posted.items) domain k)
    ∙ ap (λ m. length before.posted.items + m)
    (length-state_commands (length before.posted.items) domain k)

pub asked_rests : {closed : Bool} (domain state k : ℕ) (before mid : AgentLog)
    → HasAskedFor closed domain state k before mid → IsAtRest before → IsAtRest mid
asked_rests domain state k before mid so_far rest =
    asked_posted domain state k before mid so_far
    ∙ omega (
      arith,
      rest,
      so_far.many,
      ap length so_far.read,
      length-append before.read.items (map Reply so_far.others),
      length-map so_far.others Reply,
    )

-- the frame that the next call posts
next_frame : {closed : Bool} (domain state k protocol id : ℕ) (payload : ArrayVec ℕ)
    (before mid : AgentLog) → HasAskedFor closed domain state k before mid → protocol ≡ 0x11
    → id ≡ 0x5 → payload.items ≡ domain ∷ [] → command (length mid.posted.items) protocol id payload
    ≡ command (length before.posted.items + k) 0x11 0x5 (record { items = domain ∷ [] })
next_frame domain state k protocol id payload before mid so_far p i w =
    ap (λ n. command n protocol id payload) (asked_posted domain state k before mid so_far)
    ∙ ap (λ x. command (length before.posted.items + k) x id payload) p
    ∙ ap (λ x. command (length before.posted.items + k) 0x11 x payload) i
    ∙ ap (λ ws. command (length before.posted.items + k) 0x11 0x5 (record { items = ws })) w

-- this many calls asked, and a further one was posted
module _ (full : Bool) (domain state k protocol id : ℕ) (payload : ArrayVec ℕ) (closed : Bool)
    (before mid after : AgentLog) (so_far : HasAskedFor closed domain state k before mid)
    (p : protocol ≡ 0x11) (i : id ≡ 0x5) (w : payload.items ≡ domain ∷ []) where
  further : after.posted.items ≡ mid.posted.items
      ++ command (length mid.posted.items) protocol id payload ∷ [] → after.posted.items
      ≡ before.posted.items ++ state_commands (length before.posted.items) domain (k + 1)
  further e = e ∙ ap (λ f. mid.posted.items ++ f ∷ []) (next_frame
      domain state k protocol id payload before mid so_far p i w) ∙ ap (λ xs. xs ++ command
      (length before.posted.items + k) 0x11 0x5 (record { items = domain ∷ [] }) ∷ []) so_far.posted
      ∙ append_assoc before.posted.items (state_commands (length before.posted.items) domain k)
      (command (length before.posted.items + k) 0x11 0x5 (record { items = domain ∷ [] }) ∷ [])
      ∙ ap (λ xs. before.posted.items ++ xs)
      (sym (state_commands_more (length before.posted.items) domain k))

  further_read : (reply : Message) → after.read.items ≡ mid.read.items ++ Reply reply ∷ []
      → after.read.items ≡ before.read.items ++ (map Reply so_far.others ++ Reply reply ∷ [])
  further_read reply e = e ∙ ap (λ xs. xs ++ Reply reply ∷ []) so_far.read
      ∙ append_assoc before.read.items (map Reply so_far.others) (Reply reply ∷ [])

  further_looks : {l : Line} (waited : HasWaited l mid after)
      → after.reply_looks ≡ more_calls (so_far.looks + waited.looks) before.reply_looks
  further_looks waited = then_counted so_far.looks waited.looks before.reply_looks mid.reply_looks
      after.reply_looks so_far.counted waited.counted

  pub one_asked : (l : Line)
      → HasAsked full closed (command (length mid.posted.items) protocol id payload) l mid after
      → IsGot l → ¬ (ShowsState state l) → HasAskedFor closed domain state (k + 1) before after
  one_asked (line.Got words) asked got not = record {
    others = so_far.others ++ asked.2.0 ∷ [];
    many = length-append so_far.others (asked.2.0 ∷ []) ∙ ap (λ n. n + 1) so_far.many;
    unclosed = λ is. not_both closed is asked.0;
    none_has_it = All-push (λ reply. ¬ (HasState state reply)) so_far.others asked.2.0
        so_far.none_has_it (λ has. not (ap (λ ws. ws.items) asked.2.1 ∙ has));
    posted = further asked.1;
    read = further_read asked.2.0 asked.2.2 ∙ ap (λ xs. before.read.items ++ xs)
        (sym (map-append Reply so_far.others (asked.2.0 ∷ [])));
    looks = so_far.looks + asked.3.looks;
    of_each = one_wait_more k so_far.looks asked.3.looks so_far.of_each asked.3.many;
    counted = further_looks asked.3;
  }
  one_asked _ asked got not = absurd got

  pub looked_seen : (l : Line) → k < CALLS
      → HasAsked full closed (command (length mid.posted.items) protocol id payload) l mid after
      → ShowsState state l → HasLooked full closed domain state (Ok true) before after
  looked_seen (line.Got words) below asked shows =
      let part : Part = of_calls (state_commands (length before.posted.items) domain
      (length so_far.others + 1)) (map Reply so_far.others ++ Reply asked.2.0 ∷ [])
      (line.UntilOk ∷ []) (so_far.looks + asked.3.looks) in
      record {
        part = part;
        writes = while_open full closed
            (length before.posted.items) (order.Until domain state) None part asked.0
            (state_seen so_far.others asked.2.0 (omega (arith, so_far.many)) so_far.none_has_it
            (sym (ap (λ ws. ws.items) asked.2.1) ∙ shows) (so_far.looks + asked.3.looks) (same_waits
            (length so_far.others + 1) (k + 1) (so_far.looks + asked.3.looks) (ap (λ n. n + 1)
            so_far.many) (one_wait_more k so_far.looks asked.3.looks so_far.of_each asked.3.many)));
        posted = further asked.1 ∙ ap (λ m. before.posted.items
            ++ state_commands (length before.posted.items) domain (m + 1)) (sym so_far.many);
        read = further_read asked.2.0 asked.2.2;
        lines = refl;
        counted = further_looks asked.3;
      }
  looked_seen _ below asked shows = absurd shows

  pub looked_in_vain : (l : Line) → k < CALLS
      → HasAsked full closed (command (length mid.posted.items) protocol id payload) l mid after
      → ¬ (IsGot l) → HasLooked full closed domain state (Ok false) before after
  looked_in_vain (line.Got words) below asked not = absurd (not tt)
  looked_in_vain (line.NotPosted error) below asked not = record {
    part = of_calls (state_commands (length before.posted.items) domain (length so_far.others))
        (map Reply so_far.others) (line.UntilLimit ∷ []) so_far.looks;
    writes = refused_look full
        (length before.posted.items) domain state k so_far.looks closed so_far.others error
        so_far.unclosed so_far.many so_far.of_each below so_far.none_has_it asked.0;
    posted = asked.1 ∙ so_far.posted ∙ ap (λ m. before.posted.items
        ++ state_commands (length before.posted.items) domain m) (sym so_far.many);
    read = asked.2 ∙ so_far.read;
    lines = refl;
    counted = asked.3 ∙ so_far.counted;
  }
  looked_in_vain line.Limit below asked not =
      let part : Part =
      of_calls (state_commands (length before.posted.items) domain (length so_far.others + 1))
      (map Reply so_far.others) (line.UntilLimit ∷ []) (so_far.looks + TURNS) in
      record {
        part = part;
        writes = while_open full closed (length before.posted.items)
            (order.Until domain state) (Some stop.Limit) part asked.0 (state_ran_out so_far.others
            (omega (arith, so_far.many)) so_far.none_has_it so_far.looks
            (same_waits (length so_far.others) k so_far.looks so_far.many so_far.of_each));
        posted = further asked.1 ∙ ap (λ m. before.posted.items
            ++ state_commands (length before.posted.items) domain (m + 1)) (sym so_far.many);
        read = asked.2 ∙ so_far.read;
        lines = refl;
        counted = further_looks asked.3
            ∙ ap (λ n. more_calls (so_far.looks + n) before.reply_looks) asked.3.many;
      }
  looked_in_vain line.Error below asked not = absurd (omega (arith, asked.2.0, ap length w))
  looked_in_vain _ below asked not = absurd asked.2

pub looked_to_the_end : (full closed : Bool) (domain state k : ℕ) (before after : AgentLog)
    → k ≡ CALLS → HasAskedFor closed domain state k before after
    → HasLooked full closed domain state (Ok false) before after
looked_to_the_end full closed domain state k before after is so_far = record {
  part = of_calls (state_commands (length before.posted.items) domain (length so_far.others))
      (map Reply so_far.others) (line.UntilLimit ∷ []) so_far.looks;
  writes = last_look full (length before.posted.items) domain state k so_far.looks closed
      so_far.others so_far.unclosed so_far.many so_far.of_each is so_far.none_has_it;
  posted = so_far.posted ∙ ap (λ m. before.posted.items
      ++ state_commands (length before.posted.items) domain m) (sym so_far.many);
  read = so_far.read;
  lines = refl;
  counted = so_far.counted;
}

pub looked_without_room : (full closed : Bool) (domain state k : ℕ) (r : Result Bool Stop)
    (before mid after : AgentLog) → k < CALLS → r ≡ Err stop.Memory → HasAskedFor closed domain
    state k before mid → IsSameLog mid after → HasLooked full closed domain state r before after
looked_without_room full closed domain state k r before mid after below is so_far same =
    subst (λ x. HasLooked full closed domain state x before after) (sym is) (record {
      part = of_calls (state_commands (length before.posted.items) domain (length so_far.others))
          (map Reply so_far.others) [] so_far.looks;
      writes =
          look_without_room full (length before.posted.items) domain state k so_far.looks closed
          so_far.others so_far.unclosed so_far.many so_far.of_each below so_far.none_has_it;
      posted = same.posted ∙ so_far.posted ∙ ap (λ m. before.posted.items
          ++ state_commands (length before.posted.items) domain m) (sym so_far.many);
      read = same.read ∙ so_far.read;
      lines = refl;
      counted = same.looks.replies ∙ so_far.counted;
    })

-- an order to wait for a state takes no message, and polls for none
record IsNoTake (part : Part) : Type 0 where
  pub taken : part.taken ≡ []
  pub message_looks : part.message_looks ≡ 0

no_messages : (full closed : Bool) (n domain state : ℕ) (s : Option Stop) (part : Part)
    → Writes full closed n (order.Until domain state) s part → IsNoTake part
no_messages full true n domain state s part w = closed_none s part w where
  closed_none : (s : Option Stop) (part : Part) → ClosedWrites (order.Until domain state) s part
      → IsNoTake part
  closed_none _ _ (state_refused _ _) = record { taken = refl; message_looks = refl }
  closed_none _ _ (line_had_no_room _ some) = record { taken = refl; message_looks = refl }
no_messages full false n domain state s part w = open_none s part w where
  open_none : (s : Option Stop) (part : Part) → UntilWrites full n domain state s part
      → IsNoTake part
  open_none _ _ (state_seen others last below not has looks of_each) =
      record { taken = refl; message_looks = refl }
  open_none _ _ (state_not_seen others all not looks of_each) =
      record { taken = refl; message_looks = refl }
  open_none _ _ (state_ran_out others below not looks of_each) =
      record { taken = refl; message_looks = refl }
  open_none _ _ (state_found_no_place others below not why looks of_each) =
      record { taken = refl; message_looks = refl }
  open_none _ _ (state_had_no_room others below not looks of_each) =
      record { taken = refl; message_looks = refl }

-- the line of an order to wait for a state, if it has one
pub until_noted : (full : Bool) (domain state : ℕ)
    (seen : Result Bool Stop) (l : Line) (v w : CallerView) (before mid after : AgentLog)
    → HasLooked full v.closed domain state seen before mid → lines_of_seen seen ≡ l ∷ []
    → LeavesRest v w before mid → mid.lines.items ≡ before.lines.items → IsNoted l mid after
    → HasDone full (order.Until domain state) (stop_of_seen seen) v w before after
until_noted full domain state seen l v w before mid after looked is rest same noted = record {
  part = looked.part;
  writes = looked.writes;
  more = record {
    posted = noted.posted ∙ looked.posted;
    read = noted.read ∙ looked.read;
    taken = none_more before.p2a.items after.p2a.items (noted.taken ∙ rest.taken) ∙ ap
        (λ xs. before.p2a.items ++ xs) (sym (no_messages full v.closed (length before.posted.items)
        domain state (stop_of_seen seen) looked.part looked.writes).taken);
    lines = noted_more l before mid after same noted
        ∙ ap (λ ls. before.lines.items ++ ls) (sym (looked.lines ∙ is));
    reply_looks = noted.looks.replies ∙ looked.counted;
    message_looks = none_counted before.message_looks after.message_looks
        (noted.looks.messages ∙ rest.message_looks) ∙ ap (λ k. more_calls k before.message_looks)
        (sym (no_messages full v.closed (length before.posted.items) domain state
        (stop_of_seen seen) looked.part looked.writes).message_looks);
  };
  closed = λ s. rest.closed;
  not_stopped = noted.stopped ∙ rest.stopped;
}

-- an order to wait for a state that was refused memory
pub until_ended : (full : Bool) (domain state : ℕ) (why : Stop) (r : Result (Unit {0}) Stop)
    (v w : CallerView) (before after : AgentLog) → r ≡ Err why → HasLooked full
    v.closed domain state (Err why) before after → LeavesRest v w before after → after.lines.items
    ≡ before.lines.items → HasDone full (order.Until domain state) (stop_of r) v w before after
until_ended full domain state why r v w before after is looked rest same = subst
    (λ x. HasDone full (order.Until domain state) (stop_of x) v w before after) (sym is) (record {
      part = looked.part;
      writes = looked.writes;
      more = record {
        posted = looked.posted;
        read = looked.read;
        taken = none_more before.p2a.items after.p2a.items rest.taken
            ∙ ap (λ xs. before.p2a.items ++ xs) (sym (no_messages full v.closed
            (length before.posted.items) domain state (Some why) looked.part looked.writes).taken);
        lines = none_more before.lines.items after.lines.items same
            ∙ ap (λ ls. before.lines.items ++ ls) (sym looked.lines);
        reply_looks = looked.counted;
        message_looks = none_counted before.message_looks after.message_looks rest.message_looks
            ∙ ap (λ k. more_calls k before.message_looks) (sym (no_messages full v.closed (length
            before.posted.items) domain state (Some why) looked.part looked.writes).message_looks);
      };
      closed = λ s. rest.closed;
      not_stopped = rest.stopped;
    })

pub left_rest : (u v w : CallerView) (before mid after : AgentLog) → LeavesRest u v before mid
    → LeavesRest v w mid after → LeavesRest u w before after
left_rest u v w before mid after r s =
    record {
      taken = s.taken ∙ r.taken;
      message_looks = s.message_looks ∙ r.message_looks;
      stopped = s.stopped ∙ r.stopped;
      closed = s.closed ∙ r.closed;
    }

-- an order that did not end the script has read an answer for each frame that it posted
pub writes_rest : (full closed : Bool) (n : ℕ) (o : Order) (part : Part)
    → Writes full closed n o None part → length part.posted ≡ length part.read
writes_rest full true n o part w =
    let still = stays_still o None part w in
    ap length still.posted ∙ sym (ap length still.read)
writes_rest full false n (order.Call protocol id payload) part w = call_rest part w where
  call_rest : (part : Part) → CallWrites full n protocol id payload None part
      → length part.posted ≡ length part.read
  call_rest _ (call_answered reply looks of_it) = refl
  call_rest _ (call_did_not_fit long looks of_it) = refl
  call_rest _ (call_found_no_place why) = refl
writes_rest full false n (order.Until domain state) part w = until_rest part w where
  until_rest : (part : Part) → UntilWrites full n domain state None part
      → length part.posted ≡ length part.read
  until_rest _ (state_seen others last below not has looks of_each) = length-state_commands n domain
      (length others + 1) ∙ sym (length-append (map Reply others) (Reply last ∷ [])
      ∙ ap (λ m. m + 1) (length-map others Reply))
writes_rest full false n (order.P2a count) part w = p2a_rest part w where
  p2a_rest : (part : Part) → P2aWrites count None part → length part.posted ≡ length part.read
  p2a_rest _ (messages_taken messages many looks of_each) = refl
writes_rest full false n order.Close part w = close_rest part w where
  close_rest : (part : Part) → CloseWrites None part → length part.posted ≡ length part.read
  close_rest _ close_done = refl
