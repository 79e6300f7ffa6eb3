-- What is so of each command of the base protocol: how long its reply is, and whose it is if it
-- says what agents may do.
use Rattle.std.proofs.Common.{◌≡◌, ◌≢◌, ℕ, ◌+◌, ◌/◌, ◌≤◌, ◌==◌, nat_lt, Bool, true, false, not, List, [], ◌∷◌, length, drop, None, refl, arith}
use Rattle.std.proofs.lemmas.Bool.{eqb-true}
use Rattle.std.proofs.lemmas.List.{length-take}
use Rattle.scmi_codec.specs.Name.{four_words, name_words}
use Rattle.scmi_codec.specs.Payload.{begins_with_success}
use Rattle.scmi_codec.specs.Reply.{other_bits, reply_unless}
use Rattle.scmi_codec.specs.declared.base_command.BaseCommand.{BaseCommand}
use Rattle.scmi_codec.specs.declared.base_command.BaseCommand.TheVariants as base
use Rattle.scmi_codec.specs.declared.status.Status.TheVariants.{NotFound, InvalidParameters, Denied}
use Rattle.scmi_plan.specs.Board.{Board}
use Rattle.scmi_plan.specs.declared.scope.Scope.{Scope}
use Rattle.scmi_base.specs.BaseReply.{agent_name, asked_for, base_reply, no_agent, no_device, no_protocol, packed_words, permit_checks, permit_protocol_checks, reset_checks}
use Rattle.scmi_base.specs.Permission.{permission}
use Rattle.scmi_base.proofs.CheckedReplies.{by_checks, checked}

few_ids : (ids : List ℕ) → length (packed_words ids) ≤ 4
few_ids ids =
    let is = length-take ((length ids + 3) / 4) (four_words ids) in
    omega (arith, is)

-- a reply is of eight words at most
module _ (n : ℕ) (eight : 8 ≤ n) where
  one : 1 ≤ n
  one = omega (arith, eight)

  pub within : (board : Board) (a : ℕ) (c : BaseCommand) → length (base_reply board a c) ≤ n
  unfolding base_reply
  within board a base.Version = omega (arith, eight)
  within board a base.Attributes = omega (arith, eight)
  within board a (base.MessageAttributes message) =
      checked n one _ _ (0 ∷ 0 ∷ []) (omega (arith, eight))
  within board a base.Vendor = omega (arith, eight)
  within board a base.SubVendor = omega (arith, eight)
  within board a base.Implementation = omega (arith, eight)
  within board a (base.Protocols skip) =
      let rest = drop skip board.protocols in
      let few = few_ids rest in
      checked n one _ _ (0 ∷ length rest ∷ packed_words rest) (omega (arith, eight, few))
  within board a (base.Agent agent) =
      checked n one _ _ (0 ∷ asked_for a agent ∷ name_words (agent_name board (asked_for a agent)))
      (omega (arith, eight))
  within board a (base.Permit agent device flags) =
      by_checks n one (permit_checks board a agent device flags) (0 ∷ []) one
  within board a (base.PermitProtocol agent device protocol flags) =
      by_checks n one (permit_protocol_checks board a agent device protocol flags) (0 ∷ []) one
  within board a (base.ResetAgent agent flags) =
      by_checks n one (reset_checks board a agent flags) (0 ∷ []) one

-- what succeeded passed the check of the trusted agent
permit-trusted : (c1 c2 c3 trusted : Bool)
    → begins_with_success (reply_unless ((c1, NotFound) ∷ (c2, NotFound) ∷ (c3, InvalidParameters)
    ∷ (not trusted, Denied) ∷ []) (0 ∷ [])) ≡ true → trusted ≡ true
permit-trusted c1 c2 c3 true ok = refl
permit-trusted true c2 c3 false ok = absurd (cc)
permit-trusted false true c3 false ok = absurd (cc)
permit-trusted false false true false ok = absurd (cc)
permit-trusted false false false false ok = absurd (cc)

protocol-trusted : (c1 c2 c3 c4 c5 trusted : Bool)
    → begins_with_success (reply_unless ((c1, NotFound) ∷ (c2, NotFound) ∷ (c3, NotFound)
    ∷ (c4, InvalidParameters) ∷ (c5, InvalidParameters) ∷ (not trusted, Denied) ∷ []) (0 ∷ []))
    ≡ true → trusted ≡ true
protocol-trusted c1 c2 c3 c4 c5 true ok = refl
protocol-trusted true c2 c3 c4 c5 false ok = absurd (cc)
protocol-trusted false true c3 c4 c5 false ok = absurd (cc)
protocol-trusted false false true c4 c5 false ok = absurd (cc)
protocol-trusted false false false true c5 false ok = absurd (cc)
protocol-trusted false false false false true false ok = absurd (cc)
protocol-trusted false false false false false false ok = absurd (cc)

pub reset-trusted : (c1 c2 trusted : Bool) → begins_with_success
    (reply_unless ((c1, NotFound) ∷ (c2, InvalidParameters) ∷ (not trusted, Denied) ∷ []) (0 ∷ []))
    ≡ true → trusted ≡ true
reset-trusted c1 c2 true ok = refl
reset-trusted true c2 false ok = absurd (cc)
reset-trusted false true false ok = absurd (cc)
reset-trusted false false false ok = absurd (cc)

-- a success that says what an agent may do is the trusted agent's
pub trusted : (board : Board) (a : ℕ) (c : BaseCommand)
    → begins_with_success (base_reply board a c) ≡ true
    → (x d : ℕ) (scope : Scope) → permission board x d scope c ≢ None → a ≡ board.trusted
unfolding base_reply
trusted board a base.Version ok x d scope some = absurd (some refl)
trusted board a base.Attributes ok x d scope some = absurd (some refl)
trusted board a (base.MessageAttributes message) ok x d scope some = absurd (some refl)
trusted board a base.Vendor ok x d scope some = absurd (some refl)
trusted board a base.SubVendor ok x d scope some = absurd (some refl)
trusted board a base.Implementation ok x d scope some = absurd (some refl)
trusted board a (base.Protocols skip) ok x d scope some = absurd (some refl)
trusted board a (base.Agent agent) ok x d scope some = absurd (some refl)
trusted board a (base.Permit agent device flags) ok x d scope some =
    eqb-true a board.trusted (permit-trusted (no_agent board agent) (no_device board device)
    (other_bits flags) (a == board.trusted) ok)
trusted board a (base.PermitProtocol agent device protocol flags) ok x d scope some =
    eqb-true a board.trusted (protocol-trusted (no_agent board agent) (no_device board device)
    (no_protocol board protocol) (nat_lt 0xFF protocol) (other_bits flags)
    (a == board.trusted) ok)
trusted board a (base.ResetAgent agent flags) ok x d scope some =
    eqb-true a board.trusted
    (reset-trusted (no_agent board agent) (other_bits flags) (a == board.trusted) ok)
