use Rattle.std.proofs.Common.{◌≡◌, ◌≤◌, ◌<◌, ◌+◌, ℕ, suc, true, false, length, get_or, refl, sym, ◌∙◌, ap, arith}
use Rattle.std.proofs.lemmas.Option.{slice_get-get_or}
use Rattle.scmi_c.specs.Aside.{holds_in}
use Rattle.scmi_c.proofs.Places.{held-by, more-unheld, unheld, unheld-by}
use Rattle.scmi_c.proofs.aside.Aside.holds_message_back.Goals as goal

pub returns-then-holds_back : goal.returns-then-holds_back
returns-then-holds_back c =
    let slots = c.args.self.now.slots in
    let place = c.loop-place.place in
    let within : place < length slots = omega (arith, c.requires) in
    let slot = get_or slots place c.index-self-place.result in
    let own : place + 1 ≡ suc place = omega arith in
    let on : holds_in (suc place) slot c.args.agent c.args.message.now ≡ true =
    ap (λ (n : ℕ). holds_in n slot c.args.agent c.args.message.now) (sym own)
    ∙ sym c.holds_back.ensures ∙ c.if-holds_back.true in (
      λ true. held-by slots place slot c.args.agent c.args.message.now
          (slice_get-get_or slots place c.index-self-place.result within) on,
      λ held. refl,
    )

pub loop-place-preserved : goal.loop-place-preserved
loop-place-preserved c =
    let slots = c.args.self.now.slots in
    let place = c.loop-place.place in
    let within : place < length slots = omega (arith, c.requires) in
    let slot = get_or slots place c.index-self-place.result in
    let own : place + 1 ≡ suc place = omega arith in
    let off : holds_in (suc place) slot c.args.agent c.args.message.now ≡ false =
    ap (λ (n : ℕ). holds_in n slot c.args.agent c.args.message.now) (sym own)
    ∙ sym c.holds_back.ensures ∙ c.if-holds_back.false in
    more-unheld slots place c.args.agent c.args.message.now c.loop-place.invariant
    (unheld-by slots place slot c.args.agent c.args.message.now
    (slice_get-get_or slots place c.index-self-place.result within) off)

pub returns : goal.returns
returns c =
    let slots = c.args.self.now.slots in
    let all : length slots ≤ c.loop-place.place = omega (arith, c.requires) in (
      λ on. absurd (let it : false ≡ true = on in cc),
      λ held. absurd (unheld slots
          c.loop-place.place c.args.agent c.args.message.now all c.loop-place.invariant held),
    )
