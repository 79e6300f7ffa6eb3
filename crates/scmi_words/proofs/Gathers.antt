-- The rule gives what a gathering shows.
use Rattle.std.proofs.Common.{◌≡◌, ℕ, ◌+◌, ◌≤◌, Bool, true, false, List, ◌∷◌, [], length, refl, sym, ap, ◌∙◌, inl, inr, ⊎_elim, arith, subst}
use Rattle.std.proofs.lemmas.Bool.{false≢true, true≢false}
use Rattle.std.proofs.lemmas.List.{append-nil}
use Rattle.scmi_link.specs.View.{CallerView, CalleeView}
use Rattle.scmi_link.specs.Gathered.{Agree, Closed, IsPrefixOf}
use Rattle.scmi_words.specs.declared.phase.Phase.{Phase}
use Rattle.scmi_words.specs.declared.phase.Phase.TheVariants.{Idle, Waiting, Withdrawing, Withdrawn, GivenUp}
use Rattle.scmi_words.specs.declared.view.CallerHalf.{CallerHalf}
use Rattle.scmi_words.specs.declared.view.CalleeHalf.{CalleeHalf}
use Rattle.scmi_words.specs.Mailbox.{Stage, Rule, idle, posted, taken, answered, withdrawn}
use Rattle.scmi_words.specs.Remembers.{CallerRemembers, CalleeRemembers}
use Rattle.scmi_words.specs.Phase.{is_left, is_stranded, unread}

-- the views of two halves
abbrev pub seen_caller : CallerHalf → Phase → ℕ → ℕ → CallerView
seen_caller h now p n = record {
  posted = h.state.posted;
  read = h.state.read;
  closed = h.state.closed;
  told = h.told;
  left = is_left now;
  posts = p;
  collects = n;
}

abbrev pub seen_callee : CalleeHalf → ℕ → CalleeView
seen_callee k n = record {
  taken = k.state.taken;
  answered = k.state.answered;
  closed = k.state.closed;
  told = k.told;
  takes = n;
}

whole : {X : Type 0} (xs ys : List X) → xs ≡ ys → IsPrefixOf xs ys
whole xs ys e = ([], append-nil xs ∙ e)

unread_few : (now : Phase) → unread now ≤ 1
unread_few Idle = omega arith
unread_few Waiting = omega arith
unread_few Withdrawing = omega arith
unread_few Withdrawn = omega arith
unread_few GivenUp = omega arith

module _ (words : List ℕ) (h : CallerHalf) (k : CalleeHalf) (p n m : ℕ)
    (few : length h.state.posted ≤ length h.state.read + 1) where
  pub agrees : Stage words h.state k.state
      → Agree (seen_caller h h.state.phase p n) (seen_callee k m)
  agrees (idle x) = record {
    taken = inl x.taken;
    answered = inl (sym x.answered);
    read = whole _ _ x.read;
    unread = few;
  }
  agrees (posted x) = record {
    taken = inr (x.frame, x.taken);
    answered = inl (sym x.answered);
    read = whole _ _ x.read;
    unread = few;
  }
  agrees (taken x) = record {
    taken = inl x.taken;
    answered = inr x.answered;
    read = whole _ _ x.read;
    unread = few;
  }
  agrees (answered x) = record {
    taken = inl x.taken;
    answered = inl (sym x.answered);
    read = (x.answer ∷ [], sym x.read);
    unread = few;
  }
  agrees (withdrawn x) = record {
    taken = inr (x.frame, x.taken);
    answered = inl (sym x.answered);
    read = whole _ _ x.read;
    unread = few;
  }

not_left : (p q : Phase) → p ≡ q → is_left q ≡ false → is_left p ≡ true → ⊥
not_left p q e f l = false≢true (sym f ∙ (ap is_left (sym e) ∙ l))

module _ (words : List ℕ) (h : CallerHalf) (k : CalleeHalf) (p n m : ℕ) (rule : Rule words h k)
    (settled : is_stranded h.state.phase ≡ false) where
  pub closed_stage : Stage words h.state k.state
      → Closed (seen_caller h h.state.phase p n) (seen_callee k m)
  closed_stage (idle x) = record {
    left = λ l. absurd (not_left _ Idle x.phase refl l);
    idle = λ _ _. (x.taken, x.read);
    caller_told = rule.caller_told;
    callee_told = rule.callee_told;
  }
  closed_stage (posted x) = record {
    left = λ _. ((x.frame, x.taken), x.read);
    idle = λ c l. absurd (⊎_elim
        (λ (e : h.state.phase ≡ Waiting). true≢false (sym c ∙ x.unclosed e))
        (⊎_elim (λ (e : h.state.phase ≡ Withdrawing). true≢false (sym (ap is_stranded e) ∙ settled))
        (λ (e : h.state.phase ≡ GivenUp). true≢false (sym (ap is_left e) ∙ l))) x.phase);
    caller_told = rule.caller_told;
    callee_told = rule.callee_told;
  }
  closed_stage (taken x) = record {
    left = λ l. absurd (not_left _ Waiting x.phase refl l);
    idle = λ c _. absurd (true≢false (sym c ∙ x.unclosed.0));
    caller_told = rule.caller_told;
    callee_told = rule.callee_told;
  }
  closed_stage (answered x) = record {
    left = λ l. absurd (not_left _ Waiting x.phase refl l);
    idle = λ c _. absurd (true≢false (sym c ∙ x.unclosed));
    caller_told = rule.caller_told;
    callee_told = rule.callee_told;
  }
  closed_stage (withdrawn x) = record {
    left = λ _. ((x.frame, x.taken), x.read);
    idle = λ _ l. absurd (true≢false (sym (ap is_left x.phase) ∙ l));
    caller_told = rule.caller_told;
    callee_told = rule.callee_told;
  }

-- the views of the ends, as the ends remember them
module _ (words : List ℕ) (h : CallerHalf) (k : CalleeHalf) (now : Phase) (free : ℕ)
    (closed told owing closed' told' : Bool) (p n m : ℕ)
    (rule : Rule words h k) (mine : CallerRemembers h now free closed told)
    (other : CalleeRemembers k owing closed' told') where
  abbrev caller : CallerView
  caller = record {
    posted = h.state.posted;
    read = h.state.read;
    closed = closed;
    told = told;
    left = is_left now;
    posts = p;
    collects = n;
  }

  abbrev callee : CalleeView
  callee = record {
    taken = k.state.taken;
    answered = k.state.answered;
    closed = closed';
    told = told';
    takes = m;
  }

  caller_is : seen_caller h h.state.phase p n ≡ caller
  caller_is i = record {
    posted = h.state.posted;
    read = h.state.read;
    closed = sym mine.closed i;
    told = sym mine.told i;
    left = is_left (sym mine.phase i);
    posts = p;
    collects = n;
  }

  callee_is : seen_callee k m ≡ callee
  callee_is i = record {
    taken = k.state.taken;
    answered = k.state.answered;
    closed = sym other.closed i;
    told = sym other.told i;
    takes = m;
  }

  few : length h.state.posted ≤ length h.state.read + 1
  few = let c = mine.counted in let u = unread_few now in omega arith

  pub agree : Agree caller callee
  agree = subst (λ (z : CallerView × CalleeView). Agree z.0 z.1) (λ i. (caller_is i, callee_is i))
      (agrees words h k p n m few rule.stage)

  pub closed_ends : Closed caller callee
  closed_ends = subst (λ (z : CallerView × CalleeView). Closed z.0 z.1)
      (λ i. (caller_is i, callee_is i)) (closed_stage words h k p n m rule
      (ap is_stranded (sym mine.phase) ∙ mine.settled) rule.stage)
