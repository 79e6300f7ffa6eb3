-- What was due in place of an entry.
use Rattle.std.proofs.Common.{◌≡◌, List, ◌∷◌, subst}
use Rattle.scmi_plan.specs.Board.{Board}
use Rattle.scmi_judge.specs.Behind.{Behind, HasLegalHistory}
use Rattle.scmi_judge.specs.Due.{IsDue, in_place}
use Rattle.scmi_judge.specs.Guess.{Gives, IsReal}
use Rattle.scmi_judge.specs.declared.entry.Entry.{Entry}
use Rattle.scmi_judge.specs.declared.entry.Entry.TheVariants.{Answered, Asked, Delivered, GivenUp, Replied, Told}
use Rattle.scmi_judge.specs.declared.guess.Guess.{Guess}
use Rattle.scmi_judge.specs.declared.unseen.Unseen.{Unseen}
use Rattle.scmi_judge.specs.declared.verdict.Verdict.{Verdict}
use Rattle.scmi_judge.specs.declared.verdict.Verdict.TheVariants as verdict

-- what is so of an entry with what was due
due-there : (v : Verdict) (entry : Entry) (Does : Entry → Type 0) → Does (in_place entry v)
    → IsDue v entry Does
due-there verdict.Same entry Does is = tt
due-there verdict.NoAgent entry Does is = tt
due-there verdict.NoMessage entry Does is = tt
due-there verdict.NoReport entry Does is = tt
due-there (verdict.Answer due) (Answered a frame seen) Does is = is
due-there (verdict.Answer due) (Delivered a seen) Does is = tt
due-there (verdict.Message due) (Answered a frame seen) Does is = tt
due-there (verdict.Message due) (Delivered a seen) Does is = is
due-there (verdict.Answer due) (Asked k a frame) Does is = tt
due-there (verdict.Answer due) (Replied k a frame seen) Does is = is
due-there (verdict.Answer due) (GivenUp k) Does is = tt
due-there (verdict.Answer due) (Told report) Does is = tt
due-there (verdict.Message due) (Asked k a frame) Does is = tt
due-there (verdict.Message due) (Replied k a frame seen) Does is = tt
due-there (verdict.Message due) (GivenUp k) Does is = tt
due-there (verdict.Message due) (Told report) Does is = tt

-- what a guess gives that may be behind some entries has a history with these
given-legal : (may : Unseen) (board : Board) (entries : List Entry) (entry : Entry) (g new : Guess)
    → Gives may g entry new → IsReal may board entries g
    → HasLegalHistory may board (entry ∷ entries)
given-legal may board entries entry g new gives real =
    let some = gives.some board entries real.0 real.1 in
    (some.0, some.1.legal, Behind.shown real.1.behind entry some.0 some.1.fits)

-- so it was due
pub due-given : (may : Unseen) (board : Board) (entries : List Entry) (v : Verdict)
    (entry given : Entry) (g copy new : Guess) → given ≡ in_place entry v → copy ≡ g
    → Gives may copy given new → IsReal may board entries g
    → IsDue v entry (λ due. HasLegalHistory may board (due ∷ entries))
due-given may board entries v entry given g copy new is same gives real =
    due-there v entry (λ due. HasLegalHistory may board (due ∷ entries))
    (subst (λ e. HasLegalHistory may board (e ∷ entries)) is
    (given-legal may board entries given g new
    (subst (λ x. Gives may x given new) same gives) real))
