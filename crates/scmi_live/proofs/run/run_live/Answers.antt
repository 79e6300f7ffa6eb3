use Rattle.std.proofs.Common.{◌≡◌, ◌∙◌, Bool, List, ℕ, Option, IfSome, OnErr, OnOk, Result, Ok, Err, true, false, inl, inr, refl, ap, subst, sym, rules, tests, arith}
use Rattle.std.specs.Prelude.{⊤}
use Rattle.std.proofs.lemmas.Result.{err_from_is_err_and}
use Rattle.scmi_live.specs.LiveError.{fault_of_input}
use Rattle.scmi_live.specs.declared.live_error.LiveError.TheVariants.{Size, Write}
use Rattle.scmi_io.specs.declared.input_error.InputError.{InputError}
use Rattle.scmi_io.specs.declared.input_error.InputError.TheVariants as input
use Rattle.scmi_link.specs.View.{CallerView}
use Rattle.scmi_link.specs.declared.closing.Closing.{Closing}
use Rattle.scmi_link.specs.declared.close_error.CloseError.{CloseError}
use Rattle.scmi_live.specs.Heard.{Heard}
use Rattle.scmi_live.specs.Live.{Answers, IsStopped, IsStoppedBefore, IsTooMuch, LiveView, RefusesEnd, StopsAt, goes_on}
use Rattle.scmi_live.specs.Meant.{line_meant}
use Rattle.std.proofs.lemmas.Bool.Decides.{nat_tests}
use Rattle.scmi_io.specs.Lines.{first_line}
use Rattle.scmi_board.specs.BoardLines.{described}
use Rattle.scmi_modes.specs.Run.{IsNewSession}
use Rattle.scmi_ends.specs.Shut.{ShowsClose}
use Rattle.scmi_live.proofs.Answered.{before_any, before_long, before_uncounted, first_answered, more_answered, none_answered, none_yet, refused_at_last, refused_at_line, refused_at_quit, refuses_by_end, stopped_at_line, stopped_by_end}
use Rattle.scmi_live.proofs.UnderWay.{agents_count, at_begin, at_last, at_quit, one_more}
use Rattle.scmi_live.proofs.run.run_live.Goals as goal

on_ok : {T E A B : Type 0} (r : Result T E) → OnOk r A → (A → B) → OnOk r B
on_ok (Ok x) h f = f h
on_ok (Err e) h f = tt

on_any_err : {T E A : Type 0} (r : Result T E) → A → OnErr r A
on_any_err (Ok x) a = tt
on_any_err (Err e) a = a

on_err : {T E A B : Type 0} (r : Result T E) → OnErr r A → (A → B) → OnErr r B
on_err (Ok x) h f = tt
on_err (Err e) h f = f h

size_of_input : (e : InputError) → fault_of_input e ≡ Size → e ≡ input.Size
size_of_input input.Size same = refl
size_of_input input.Read same = absurd cc
size_of_input input.Memory same = absurd cc

-- what a line gives, from what the listener had before it was made ready
at_ready : (full : Bool) (Shows : CallerView → Result Closing CloseError → Type 0) (text : List ℕ)
    (before after : LiveView) (now ready now' : Option (List Heard)) → ready ≡ now → Answers full
    Shows text before after ready now' → Answers full Shows text before after now now'
at_ready full Shows text before after now ready now' same by =
    subst (λ n. Answers full Shows text before after n now') same by

pub lines-init : goal.lines-init
lines-init g c = record {
  way = at_begin g.C.Channel.FULL (ShowsClose g.C.Channel.caller_view g.C.Channel.close_shows)
      (described c.args.board.now) c.args.plan c.args.input.now.left c.in_ok-live.live
      (g.L.Listener.heard c.args.listener.now) c.requires c.in_ok-live.ensures.board
      c.in_ok-live.ensures.agents c.in_ok-live.ensures.new;
  answered =
      let F = g.C.Channel.FULL in
      let S = ShowsClose g.C.Channel.caller_view g.C.Channel.close_shows in
      let said = described c.args.board.now in
      let count = agents_count F S said c.args.plan c.in_ok-live.live.agents c.requires
      c.in_ok-live.ensures.agents in
      none_yet F S said c.args.input.now.left c.in_ok-live.live
      (g.L.Listener.heard c.args.listener.now) c.in_ok-live.ensures.board count (subst
      (λ b. IsNewSession b c.in_ok-live.live.session) c.requires c.in_ok-live.ensures.new);
  stops = λ none. none;
}

pub lines-preserved : goal.lines-preserved
lines-preserved g c =
    let same : c.as_slice.result.now ≡ c.read_line.new.line.items = cc in
    let first : IfSome c.lines.input.left (λ input. c.as_slice.result.now ≡ first_line input) =
    subst (λ (l : List ℕ). IfSome c.lines.input.left (λ input. l ≡ first_line input))
    (sym same) c.in_ok-ended.ensures.line in
    let is_ended : c.in_ok-ended.ended ≡ true =
    first_of (search (rules, tests), grind (arith, nat_tests), cc) in
    let is_on : c.in_ok-goes_on.goes_on ≡ true =
    first_of (search (rules, tests), grind (arith, nat_tests), cc) in
    let on : goes_on (line_meant c.lines.live.board c.lines.live.agents c.as_slice.result.now)
    ≡ true = sym c.in_ok-goes_on.ensures.goes_on ∙ is_on in
    record {
      way = one_more g.C.Channel.FULL (ShowsClose g.C.Channel.caller_view g.C.Channel.close_shows)
          (described c.args.board.now) c.args.input.now.left c.lines.input.left
          c.read_line.new.self.left c.as_slice.result.now c.lines.live c.answer.new.self
          c.in_ok-ended.ended
          (g.L.Listener.heard c.args.listener.now) (g.L.Listener.heard c.lines.listener)
          (g.L.Listener.heard c.answer.new.listener)
          c.lines.invariant.way first c.in_ok-ended.ensures.rest
          c.in_ok-ended.ensures.ended is_ended on (at_ready g.C.Channel.FULL
          (ShowsClose g.C.Channel.caller_view g.C.Channel.close_shows) c.as_slice.result.now
          c.lines.live c.answer.new.self (g.L.Listener.heard c.lines.listener)
          (g.L.Listener.heard c.ready.new.self) (g.L.Listener.heard c.answer.new.listener)
          c.ready.ensures c.in_ok-goes_on.ensures.answers);
      answered = more_answered g.C.Channel.FULL
          (ShowsClose g.C.Channel.caller_view g.C.Channel.close_shows) (described c.args.board.now)
          c.args.input.now.left c.lines.input.left c.read_line.new.self.left c.as_slice.result.now
          c.lines.number c.lines.live c.answer.new.self c.in_ok-ended.ended
          (g.L.Listener.heard c.args.listener.now) (g.L.Listener.heard c.lines.listener)
          (g.L.Listener.heard c.answer.new.listener)
          c.lines.invariant.answered first c.in_ok-ended.ensures.rest
          c.in_ok-ended.ensures.ended is_ended on (at_ready g.C.Channel.FULL
          (ShowsClose g.C.Channel.caller_view g.C.Channel.close_shows) c.as_slice.result.now
          c.lines.live c.answer.new.self (g.L.Listener.heard c.lines.listener)
          (g.L.Listener.heard c.ready.new.self) (g.L.Listener.heard c.answer.new.listener)
          c.ready.ensures c.in_ok-goes_on.ensures.answers);
      stops = λ none. c.in_ok-ended.ensures.stops (c.lines.invariant.stops none);
    }

pub returns-then-not-goes_on-clause-session : goal.returns-then-not-goes_on-clause-session
returns-then-not-goes_on-clause-session g c =
    let same : c.as_slice.result.now ≡ c.read_line.new.line.items = cc in
    let first : IfSome c.lines.input.left (λ input. c.as_slice.result.now ≡ first_line input) =
    subst (λ (l : List ℕ). IfSome c.lines.input.left (λ input. l ≡ first_line input))
    (sym same) c.in_ok-ended.ensures.line in
    let is_off : c.in_ok-goes_on.goes_on ≡ false =
    first_of (search (rules, tests), grind (arith, nat_tests), cc) in
    let off : goes_on (line_meant c.lines.live.board c.lines.live.agents c.as_slice.result.now)
    ≡ false = sym c.in_ok-goes_on.ensures.goes_on ∙ is_off in
    on_ok c.end.result c.end.ensures.heard (λ heard.
    at_quit g.C.Channel.FULL (ShowsClose g.C.Channel.caller_view g.C.Channel.close_shows)
    (described c.args.board.now) c.args.input.now.left c.lines.input.left c.as_slice.result.now
    c.lines.live c.answer.new.self c.in_ok-ended.ended
    (g.L.Listener.heard c.args.listener.now) (g.L.Listener.heard c.lines.listener)
    (g.L.Listener.heard c.answer.new.listener) (g.L.Listener.heard c.end.new.listener)
    c.lines.invariant.way first c.in_ok-ended.ensures.ended off
    (at_ready g.C.Channel.FULL (ShowsClose g.C.Channel.caller_view g.C.Channel.close_shows)
    c.as_slice.result.now c.lines.live c.answer.new.self (g.L.Listener.heard c.lines.listener)
    (g.L.Listener.heard c.ready.new.self) (g.L.Listener.heard c.answer.new.listener)
    c.ready.ensures c.in_ok-goes_on.ensures.answers) c.end.ensures.gathered heard)

pub returns-then-not-ended-clause-session : goal.returns-then-not-ended-clause-session
returns-then-not-ended-clause-session g c =
    let same : c.as_slice.result.now ≡ c.read_line.new.line.items = cc in
    let first : IfSome c.lines.input.left (λ input. c.as_slice.result.now ≡ first_line input) =
    subst (λ (l : List ℕ). IfSome c.lines.input.left (λ input. l ≡ first_line input))
    (sym same) c.in_ok-ended.ensures.line in
    let is_last : c.in_ok-ended.ended ≡ false =
    first_of (search (rules, tests), grind (arith, nat_tests), cc) in
    let is_on : c.in_ok-goes_on.goes_on ≡ true =
    first_of (search (rules, tests), grind (arith, nat_tests), cc) in
    let on : goes_on (line_meant c.lines.live.board c.lines.live.agents c.as_slice.result.now)
    ≡ true = sym c.in_ok-goes_on.ensures.goes_on ∙ is_on in
    on_ok c.end-then-not-ended.result c.end-then-not-ended.ensures.heard (λ heard.
    at_last g.C.Channel.FULL (ShowsClose g.C.Channel.caller_view g.C.Channel.close_shows)
    (described c.args.board.now) c.args.input.now.left c.lines.input.left c.as_slice.result.now
    c.lines.live c.answer.new.self c.in_ok-ended.ended
    (g.L.Listener.heard c.args.listener.now)
    (g.L.Listener.heard c.lines.listener) (g.L.Listener.heard c.answer.new.listener)
    (g.L.Listener.heard c.end-then-not-ended.new.listener)
    c.lines.invariant.way first c.in_ok-ended.ensures.ended is_last on (at_ready g.C.Channel.FULL
    (ShowsClose g.C.Channel.caller_view g.C.Channel.close_shows) c.as_slice.result.now
    c.lines.live c.answer.new.self (g.L.Listener.heard c.lines.listener) (g.L.Listener.heard
    c.ready.new.self) (g.L.Listener.heard c.answer.new.listener) c.ready.ensures
    c.in_ok-goes_on.ensures.answers) c.end-then-not-ended.ensures.gathered heard)

pub returns-in_err-ended-clause-stops : goal.returns-in_err-ended-clause-stops
returns-in_err-ended-clause-stops g c =
    λ none. let p = err_from_is_err_and c.from_residual-in_err-ended.result
    c.from_residual-in_err-ended.ensures.1 in
    let h = c.in_err-ended.ensures.stops (c.lines.invariant.stops none) in
    rw (p.1, p.2) (elim h [ inl z ↦ inl z | inr b ↦ inr (b.0, ap fault_of_input b.1) ])

pub returns-in_err-goes_on-clause-stops : goal.returns-in_err-goes_on-clause-stops
returns-in_err-goes_on-clause-stops g c =
    λ none. let p = err_from_is_err_and c.from_residual-in_err-goes_on.result
    c.from_residual-in_err-goes_on.ensures.1 in
    rw p.1 (inl (c.in_ok-ended.ensures.stops (c.lines.invariant.stops none)))

pub returns-in_err-live-clause-answered : goal.returns-in_err-live-clause-answered
returns-in_err-live-clause-answered g c =
    let F = g.C.Channel.FULL in
    let S = ShowsClose g.C.Channel.caller_view g.C.Channel.close_shows in
    on_any_err c.from_residual.result (none_answered F S
    (described c.args.board.now) c.args.input.now.left (g.L.Listener.heard c.args.listener.now))

pub returns-in_err-ended-clause-answered : goal.returns-in_err-ended-clause-answered
returns-in_err-ended-clause-answered g c =
    let F = g.C.Channel.FULL in
    let S = ShowsClose g.C.Channel.caller_view g.C.Channel.close_shows in
    let said = described c.args.board.now in
    let whole = c.args.input.now.left in
    let left = c.lines.input.left in
    let old = g.L.Listener.heard c.args.listener.now in
    let now = g.L.Listener.heard c.lines.listener in
    let ready = g.L.Listener.heard c.ready.new.self in
    on_any_err c.from_residual-in_err-ended.result
    (subst (λ n. IfSome whole (λ input. IsStopped F S said input old n)) (sym c.ready.ensures)
    (first_answered F S said whole left c.lines.number c.lines.live old now
    c.lines.invariant.answered))

pub returns-in_err-ended-clause-size : goal.returns-in_err-ended-clause-size
returns-in_err-ended-clause-size g c =
    let F = g.C.Channel.FULL in
    let S = ShowsClose g.C.Channel.caller_view g.C.Channel.close_shows in
    let said = described c.args.board.now in
    let whole = c.args.input.now.left in
    let left = c.lines.input.left in
    let old = g.L.Listener.heard c.args.listener.now in
    let now = g.L.Listener.heard c.lines.listener in
    let ready = g.L.Listener.heard c.ready.new.self in
    λ e. let p = err_from_is_err_and c.from_residual-in_err-ended.result
    c.from_residual-in_err-ended.ensures.1 in
    let is_size : p.0 ≡ Size = cc in
    subst (λ n. IfSome whole (λ input. IsStoppedBefore F S IsTooMuch said input old n))
    (sym c.ready.ensures)
    (before_long F S said whole left c.lines.number c.lines.live old now c.lines.invariant.answered
    (c.in_err-ended.ensures.size (ap Err (size_of_input _ (sym p.2 ∙ is_size)))))

pub returns-in_err-ended-clause-read : goal.returns-in_err-ended-clause-read
returns-in_err-ended-clause-read g c =
    let F = g.C.Channel.FULL in
    let S = ShowsClose g.C.Channel.caller_view g.C.Channel.close_shows in
    let said = described c.args.board.now in
    let whole = c.args.input.now.left in
    let left = c.lines.input.left in
    let old = g.L.Listener.heard c.args.listener.now in
    let now = g.L.Listener.heard c.lines.listener in
    let ready = g.L.Listener.heard c.ready.new.self in
    λ e. subst (λ n. IfSome whole (λ input. IsStoppedBefore F S (λ _ _. ⊤) said input old n))
    (sym c.ready.ensures)
    (before_any F S said whole left c.lines.number c.lines.live old now c.lines.invariant.answered)

pub returns-in_err-goes_on-clause-answered : goal.returns-in_err-goes_on-clause-answered
returns-in_err-goes_on-clause-answered g c =
    let F = g.C.Channel.FULL in
    let S = ShowsClose g.C.Channel.caller_view g.C.Channel.close_shows in
    let said = described c.args.board.now in
    let whole = c.args.input.now.left in
    let left = c.lines.input.left in
    let old = g.L.Listener.heard c.args.listener.now in
    let now = g.L.Listener.heard c.lines.listener in
    let line = c.as_slice.result.now in
    let same : line ≡ c.read_line.new.line.items = cc in
    let first : IfSome left (λ input. line ≡ first_line input) = subst (λ (l : List ℕ). IfSome left
    (λ input. l ≡ first_line input)) (sym same) c.in_ok-ended.ensures.line in
    let now' = g.L.Listener.heard c.answer.new.listener in
    let stops : StopsAt F S line c.lines.live c.answer.new.self now now' =
    subst (λ n. StopsAt F S line c.lines.live c.answer.new.self n now') c.ready.ensures
    c.in_err-goes_on.ensures.stops in
    on_any_err c.from_residual-in_err-goes_on.result
    (stopped_at_line F S said whole left line c.lines.number c.lines.live c.answer.new.self old
    now now' c.lines.invariant.answered first stops)

pub returns-in_err-goes_on-clause-write : goal.returns-in_err-goes_on-clause-write
returns-in_err-goes_on-clause-write g c =
    let F = g.C.Channel.FULL in
    let S = ShowsClose g.C.Channel.caller_view g.C.Channel.close_shows in
    let said = described c.args.board.now in
    let whole = c.args.input.now.left in
    let left = c.lines.input.left in
    let old = g.L.Listener.heard c.args.listener.now in
    let now = g.L.Listener.heard c.lines.listener in
    let line = c.as_slice.result.now in
    let same : line ≡ c.read_line.new.line.items = cc in
    let first : IfSome left (λ input. line ≡ first_line input) = subst (λ (l : List ℕ). IfSome left
    (λ input. l ≡ first_line input)) (sym same) c.in_ok-ended.ensures.line in
    let now' = g.L.Listener.heard c.answer.new.listener in
    let stops : StopsAt F S line c.lines.live c.answer.new.self now now' =
    subst (λ n. StopsAt F S line c.lines.live c.answer.new.self n now') c.ready.ensures
    c.in_err-goes_on.ensures.stops in
    λ e. let p = err_from_is_err_and c.from_residual-in_err-goes_on.result
    c.from_residual-in_err-goes_on.ensures.1 in
    let is_write : p.0 ≡ Write = cc in
    refused_at_line F S said whole left line c.lines.number
    c.lines.live c.answer.new.self old now now' c.lines.invariant.answered first stops
    (c.in_err-goes_on.ensures.write (ap Err (sym p.2 ∙ is_write)))

pub returns-then-not-goes_on-clause-answered : goal.returns-then-not-goes_on-clause-answered
returns-then-not-goes_on-clause-answered g c =
    let F = g.C.Channel.FULL in
    let S = ShowsClose g.C.Channel.caller_view g.C.Channel.close_shows in
    let said = described c.args.board.now in
    let whole = c.args.input.now.left in
    let left = c.lines.input.left in
    let old = g.L.Listener.heard c.args.listener.now in
    let now = g.L.Listener.heard c.lines.listener in
    let line = c.as_slice.result.now in
    let same : line ≡ c.read_line.new.line.items = cc in
    let first : IfSome left (λ input. line ≡ first_line input) = subst (λ (l : List ℕ). IfSome left
    (λ input. l ≡ first_line input)) (sym same) c.in_ok-ended.ensures.line in
    let now' = g.L.Listener.heard c.answer.new.listener in
    let end = g.L.Listener.heard c.end.new.listener in
    let by = at_ready F S line c.lines.live c.answer.new.self now (g.L.Listener.heard
    c.ready.new.self) now' c.ready.ensures c.in_ok-goes_on.ensures.answers in
    let is_off : c.in_ok-goes_on.goes_on ≡ false =
    first_of (search (rules, tests), grind (arith, nat_tests), cc) in
    let off : goes_on (line_meant c.lines.live.board c.lines.live.agents line) ≡ false =
    sym c.in_ok-goes_on.ensures.goes_on ∙ is_off in
    let refused = on_err c.end.result c.end.ensures.stops
    (λ may. refused_at_quit F S said whole left line c.lines.number c.lines.live
    c.answer.new.self old now now' end c.lines.invariant.answered first off by
    (λ gave. at_quit F S said whole left line c.lines.live c.answer.new.self c.in_ok-ended.ended
    old now now' end c.lines.invariant.way first c.in_ok-ended.ensures.ended off by
    c.end.ensures.gathered gave) may) in
    on_err c.end.result refused (stopped_by_end F S said whole old end)

pub returns-then-not-goes_on-clause-write : goal.returns-then-not-goes_on-clause-write
returns-then-not-goes_on-clause-write g c =
    let F = g.C.Channel.FULL in
    let S = ShowsClose g.C.Channel.caller_view g.C.Channel.close_shows in
    let said = described c.args.board.now in
    let whole = c.args.input.now.left in
    let left = c.lines.input.left in
    let old = g.L.Listener.heard c.args.listener.now in
    let now = g.L.Listener.heard c.lines.listener in
    let line = c.as_slice.result.now in
    let same : line ≡ c.read_line.new.line.items = cc in
    let first : IfSome left (λ input. line ≡ first_line input) = subst (λ (l : List ℕ). IfSome left
    (λ input. l ≡ first_line input)) (sym same) c.in_ok-ended.ensures.line in
    let now' = g.L.Listener.heard c.answer.new.listener in
    let end = g.L.Listener.heard c.end.new.listener in
    let by = at_ready F S line c.lines.live c.answer.new.self now (g.L.Listener.heard
    c.ready.new.self) now' c.ready.ensures c.in_ok-goes_on.ensures.answers in
    let is_off : c.in_ok-goes_on.goes_on ≡ false =
    first_of (search (rules, tests), grind (arith, nat_tests), cc) in
    let off : goes_on (line_meant c.lines.live.board c.lines.live.agents line) ≡ false =
    sym c.in_ok-goes_on.ensures.goes_on ∙ is_off in
    let refused = on_err c.end.result c.end.ensures.stops
    (λ may. refused_at_quit F S said whole left line c.lines.number c.lines.live
    c.answer.new.self old now now' end c.lines.invariant.answered first off by
    (λ gave. at_quit F S said whole left line c.lines.live c.answer.new.self c.in_ok-ended.ended
    old now now' end c.lines.invariant.way first c.in_ok-ended.ensures.ended off by
    c.end.ensures.gathered gave) may) in
    λ e. refuses_by_end F S said whole old end
    (subst (λ r. OnErr r (IfSome whole (λ input. RefusesEnd F S said input old end))) e refused)

pub returns-then-not-ended-clause-answered : goal.returns-then-not-ended-clause-answered
returns-then-not-ended-clause-answered g c =
    let F = g.C.Channel.FULL in
    let S = ShowsClose g.C.Channel.caller_view g.C.Channel.close_shows in
    let said = described c.args.board.now in
    let whole = c.args.input.now.left in
    let left = c.lines.input.left in
    let old = g.L.Listener.heard c.args.listener.now in
    let now = g.L.Listener.heard c.lines.listener in
    let line = c.as_slice.result.now in
    let same : line ≡ c.read_line.new.line.items = cc in
    let first : IfSome left (λ input. line ≡ first_line input) = subst (λ (l : List ℕ). IfSome left
    (λ input. l ≡ first_line input)) (sym same) c.in_ok-ended.ensures.line in
    let now' = g.L.Listener.heard c.answer.new.listener in
    let end = g.L.Listener.heard c.end-then-not-ended.new.listener in
    let by = at_ready F S line c.lines.live c.answer.new.self now (g.L.Listener.heard
    c.ready.new.self) now' c.ready.ensures c.in_ok-goes_on.ensures.answers in
    let is_last : c.in_ok-ended.ended ≡ false =
    first_of (search (rules, tests), grind (arith, nat_tests), cc) in
    let is_on : c.in_ok-goes_on.goes_on ≡ true =
    first_of (search (rules, tests), grind (arith, nat_tests), cc) in
    let on : goes_on (line_meant c.lines.live.board c.lines.live.agents line) ≡ true =
    sym c.in_ok-goes_on.ensures.goes_on ∙ is_on in
    let refused = on_err c.end-then-not-ended.result c.end-then-not-ended.ensures.stops
    (λ may. refused_at_last F S said whole left line c.lines.number c.lines.live
    c.answer.new.self c.in_ok-ended.ended old now now' end c.lines.invariant.answered first
    c.in_ok-ended.ensures.ended is_last by
    (λ gave. at_last F S said whole left line c.lines.live c.answer.new.self c.in_ok-ended.ended
    old now now' end c.lines.invariant.way first c.in_ok-ended.ensures.ended is_last on by
    c.end-then-not-ended.ensures.gathered gave) may) in
    on_err c.end-then-not-ended.result refused (stopped_by_end F S said whole old end)

pub returns-then-not-ended-clause-write : goal.returns-then-not-ended-clause-write
returns-then-not-ended-clause-write g c =
    let F = g.C.Channel.FULL in
    let S = ShowsClose g.C.Channel.caller_view g.C.Channel.close_shows in
    let said = described c.args.board.now in
    let whole = c.args.input.now.left in
    let left = c.lines.input.left in
    let old = g.L.Listener.heard c.args.listener.now in
    let now = g.L.Listener.heard c.lines.listener in
    let line = c.as_slice.result.now in
    let same : line ≡ c.read_line.new.line.items = cc in
    let first : IfSome left (λ input. line ≡ first_line input) = subst (λ (l : List ℕ). IfSome left
    (λ input. l ≡ first_line input)) (sym same) c.in_ok-ended.ensures.line in
    let now' = g.L.Listener.heard c.answer.new.listener in
    let end = g.L.Listener.heard c.end-then-not-ended.new.listener in
    let by = at_ready F S line c.lines.live c.answer.new.self now (g.L.Listener.heard
    c.ready.new.self) now' c.ready.ensures c.in_ok-goes_on.ensures.answers in
    let is_last : c.in_ok-ended.ended ≡ false =
    first_of (search (rules, tests), grind (arith, nat_tests), cc) in
    let is_on : c.in_ok-goes_on.goes_on ≡ true =
    first_of (search (rules, tests), grind (arith, nat_tests), cc) in
    let on : goes_on (line_meant c.lines.live.board c.lines.live.agents line) ≡ true =
    sym c.in_ok-goes_on.ensures.goes_on ∙ is_on in
    let refused = on_err c.end-then-not-ended.result c.end-then-not-ended.ensures.stops
    (λ may. refused_at_last F S said whole left line c.lines.number c.lines.live
    c.answer.new.self c.in_ok-ended.ended old now now' end c.lines.invariant.answered first
    c.in_ok-ended.ensures.ended is_last by
    (λ gave. at_last F S said whole left line c.lines.live c.answer.new.self c.in_ok-ended.ended
    old now now' end c.lines.invariant.way first c.in_ok-ended.ensures.ended is_last on by
    c.end-then-not-ended.ensures.gathered gave) may) in
    λ e. refuses_by_end F S said whole old end
    (subst (λ r. OnErr r (IfSome whole (λ input. RefusesEnd F S said input old end))) e refused)

pub returns-clause-answered : goal.returns-clause-answered
returns-clause-answered g c =
    let F = g.C.Channel.FULL in
    let S = ShowsClose g.C.Channel.caller_view g.C.Channel.close_shows in
    let said = described c.args.board.now in
    let whole = c.args.input.now.left in
    let left = c.lines.input.left in
    let old = g.L.Listener.heard c.args.listener.now in
    let now = g.L.Listener.heard c.lines.listener in
    first_answered F S said whole left c.lines.number c.lines.live old now
    c.lines.invariant.answered

pub returns-clause-size : goal.returns-clause-size
returns-clause-size g c =
    let F = g.C.Channel.FULL in
    let S = ShowsClose g.C.Channel.caller_view g.C.Channel.close_shows in
    let said = described c.args.board.now in
    let whole = c.args.input.now.left in
    let left = c.lines.input.left in
    let old = g.L.Listener.heard c.args.listener.now in
    let now = g.L.Listener.heard c.lines.listener in
    λ e. before_uncounted F S said whole left c.lines.number c.lines.live old now
    c.lines.invariant.answered (omega arith)
