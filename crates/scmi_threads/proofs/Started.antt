-- Agents that sit down each to its own script, and their logs.
use Rattle.std.proofs.Common.{◌≡◌, ℕ, ◌+◌, ◌<◌, List, [], ◌∷◌, ◌++◌, length, map, get_or, drop, sym, ap, ◌∙◌, subst, arith, append_assoc, if◌then◌else◌}
use Rattle.std.proofs.lemmas.Bool.{eq-eqb}
use Rattle.std.specs.Prelude.{remove}
use Rattle.std.specs.List.{All, AllZip}
use Rattle.std.proofs.lemmas.List.{append-nil, drop_more}
use Rattle.std.proofs.lemmas.List.Elements.{All-head, All-tail}
use Rattle.scmi_link.specs.Scripts.{orders_of}
use Rattle.scmi_link.specs.declared.script.Script.{Script}
use Rattle.scmi_ends.specs.Each.{AllFrom}
use Rattle.scmi_ends.specs.AgentView.{AgentView, IsNewAgent}
use Rattle.scmi_threads.specs.Orders.{IsUndisturbed}
use Rattle.scmi_threads.specs.ScriptLogs.{IsGatedLog}
use Rattle.scmi_threads.specs.ScriptRuns.{HasPlayed, IsStarted}
use Rattle.scmi_threads.specs.declared.script_run.ScriptRun.{ScriptRun}

-- the script of an agent, from the i-th on

pub found : (ss : List Script) (i agent : ℕ) (s : Script) → i < length ss
    → s ≡ get_or ss i s → s.agent ≡ agent → orders_of (drop i ss) agent ≡ orders_of ss agent
    → s.lines.items ≡ orders_of ss agent
found ss i agent s below is same so_far =
    sym (ap (λ own. if own then s.lines.items else orders_of (drop (i + 1) ss) agent)
    (eq-eqb s.agent agent same))
    ∙ ap (λ x. orders_of (x ∷ drop (i + 1) ss) agent) is
    ∙ ap (λ xs. orders_of xs agent) (sym (drop_more ss i s below))
    ∙ so_far

-- numbered items

pub all_push : {X : Type 0} (P : ℕ → X → Type 0) (n : ℕ) (xs : List X) (x : X) → AllFrom P n xs
    → P (n + length xs) x → AllFrom P n (xs ++ x ∷ [])
all_push P n [] x h p = (subst (λ k. P k x) (omega arith) p, tt)
all_push P n (y ∷ xs) x h p =
    (h.0, all_push P (n + 1) xs x h.1 (subst (λ k. P k x) (omega arith) p))

pub first_new : (n : ℕ) (es es' : List AgentView) (e : AgentView)
    → AllFrom IsNewAgent n es → 0 < length es → e ≡ get_or es 0 e → es' ≡ remove es 0
    → (e.id ≡ n) × AllFrom IsNewAgent (n + 1) es'
first_new n [] es' e h some is rs = absurd (omega arith)
first_new n (x ∷ es) es' e h some is rs =
    (ap (λ v. v.id) is ∙ h.0.id, subst (AllFrom IsNewAgent (n + 1)) (sym rs) h.1)

-- items that are moved one by one

pub moved_items : {S N : Type 0} (g : S → N) (es es' : List N) (ss ss' : List S) (e : N) (s : S)
    (all : List N) → es ++ map g ss ≡ all → 0 < length ss → s ≡ get_or ss 0 s → ss' ≡ remove ss 0
    → es' ≡ es ++ e ∷ [] → e ≡ g s → es' ++ map g ss' ≡ all
moved_items g es es' [] ss' e s all h some is rs re same = absurd (omega arith)
moved_items g es es' (x ∷ ss) ss' e s all h some is rs re same =
    rw (re, rs)
    (append_assoc es (e ∷ []) (map g ss) ∙ ap (λ n. es ++ n ∷ map g ss) (same ∙ ap g is) ∙ h)

pub all_items : {S N : Type 0} (g : S → N) (es : List N) (ss : List S) (all : List N)
    → es ++ map g ss ≡ all → length ss ≡ 0 → es ≡ all
all_items g es [] all h none = sym (append-nil es) ∙ h
all_items g es (x ∷ ss) all h none = absurd (omega arith)

-- what holds of each holds of each in a weaker form
pub all_gated : {X : Type 0} (P Q : ℕ → X → Type 0) → ((a : ℕ) (x : X) → P a x → Q a x)
    → (n : ℕ) (xs : List X) → AllFrom P n xs → AllFrom Q n xs
all_gated P Q f n [] h = tt
all_gated P Q f n (x ∷ xs) h = (f n x h.0, all_gated P Q f (n + 1) xs h.1)

-- each log follows its agent's script

module _ {C Caller Callee Rest : Type 0} {g : _} where
  pub all_follow : (full : _) (asked : ℕ → ℕ → Type 0)
      (scripts : List Script) (n : ℕ) (old new : List (ScriptRun C Caller Callee Rest g))
      → AllFrom (IsStarted scripts) n old → AllZip (HasPlayed full asked) old new
      → All (λ agent. IsUndisturbed agent.caller) (map (λ script_run. script_run.end) new)
      → AllFrom (λ a log. IsGatedLog full (asked a) (orders_of scripts a) log) n
      (map (λ script_run. script_run.log) new)
  all_follow full asked scripts n [] [] started played quiet = tt
  all_follow full asked scripts n [] (y ∷ new) started played quiet = absurd played
  all_follow full asked scripts n (x ∷ old) [] started played quiet = absurd played
  all_follow full asked scripts n (x ∷ old) (y ∷ new) started played quiet = (
    subst (λ a. IsGatedLog full (asked a) (orders_of scripts n) y.log) started.0.id
        (subst (λ orders. IsGatedLog full (asked x.end.id) orders y.log) started.0.orders
        (played.0.log started.0.log started.0.caller (All-head (λ agent. IsUndisturbed agent.caller)
        y.end (map (λ script_run. script_run.end) new) quiet))),
    all_follow full asked scripts (n + 1) old new started.1 played.1 (All-tail
        (λ agent. IsUndisturbed agent.caller) y.end (map (λ script_run. script_run.end) new) quiet),
  )
