-- How the notes read after one more, and what stands after the closing note.
use Rattle.std.proofs.Common.{◌≡◌, true, false, List, [], ◌∷◌, ◌++◌, Box, refl, ap}
use Rattle.std.specs.declared.alloc.Global.{Global}
use Rattle.scmi_link.specs.declared.envelope.Envelope.{Envelope}
use Rattle.scmi_link.specs.Envelope.{frames_in}
use Rattle.scmi_link.specs.declared.note.Note.{Note}
use Rattle.scmi_link.specs.declared.note.Note.TheVariants.{Said, Closing}
use Rattle.scmi_link.specs.Note.{answers_among, has_closing, ends_well, is_nil}

pub answers_among-said : (ns : List Note) (e : Box Envelope Global)
    → answers_among (ns ++ Said e ∷ []) ≡ answers_among ns ++ e.value.answer ∷ []
answers_among-said [] e = refl
answers_among-said (Said b ∷ ns) e = ap (λ xs. b.value.answer ∷ xs) (answers_among-said ns e)
answers_among-said (Closing ∷ ns) e = answers_among-said ns e

pub answers_among-closing : (ns : List Note) → answers_among (ns ++ Closing ∷ []) ≡ answers_among ns
answers_among-closing [] = refl
answers_among-closing (Said b ∷ ns) = ap (λ xs. b.value.answer ∷ xs) (answers_among-closing ns)
answers_among-closing (Closing ∷ ns) = answers_among-closing ns

pub answers_among-append : (ns ms : List Note)
    → answers_among (ns ++ ms) ≡ answers_among ns ++ answers_among ms
answers_among-append [] ms = refl
answers_among-append (Said b ∷ ns) ms = ap (λ xs. b.value.answer ∷ xs) (answers_among-append ns ms)
answers_among-append (Closing ∷ ns) ms = answers_among-append ns ms

pub has_closing-said : (ns : List Note) (a : Box Envelope Global)
    → has_closing (ns ++ Said a ∷ []) ≡ has_closing ns
has_closing-said [] a = refl
has_closing-said (Said b ∷ ns) a = has_closing-said ns a
has_closing-said (Closing ∷ ns) a = refl

pub has_closing-closing : (ns : List Note) → has_closing (ns ++ Closing ∷ []) ≡ true
has_closing-closing [] = refl
has_closing-closing (Said b ∷ ns) = has_closing-closing ns
has_closing-closing (Closing ∷ ns) = refl

pub has_closing-front : (ns ms : List Note) → has_closing ns ≡ true → has_closing (ns ++ ms) ≡ true
has_closing-front [] ms h = cc
has_closing-front (Said b ∷ ns) ms h = has_closing-front ns ms h
has_closing-front (Closing ∷ ns) ms h = refl

pub ends_well-said : (ns : List Note) (a : Box Envelope Global) → has_closing ns ≡ false
    → ends_well (ns ++ Said a ∷ []) ≡ true
ends_well-said [] a h = refl
ends_well-said (Said b ∷ ns) a h = ends_well-said ns a h
ends_well-said (Closing ∷ ns) a h = cc

pub ends_well-closing : (ns : List Note) → has_closing ns ≡ false
    → ends_well (ns ++ Closing ∷ []) ≡ true
ends_well-closing [] h = refl
ends_well-closing (Said b ∷ ns) h = ends_well-closing ns h
ends_well-closing (Closing ∷ ns) h = cc

nil : (ms : List Note) → is_nil ms ≡ true → ms ≡ []
nil [] h = refl
nil (m ∷ ms) h = cc

left_of : (ns ms : List Note) → is_nil (ns ++ ms) ≡ true → ms ≡ []
left_of [] ms h = nil ms h
left_of (n ∷ ns) ms h = cc

-- once the closing note was seen, nothing is left
pub all_seen : (ns ms : List Note) → ends_well (ns ++ ms) ≡ true → has_closing ns ≡ true → ms ≡ []
all_seen [] ms e h = cc
all_seen (Said b ∷ ns) ms e h = all_seen ns ms e h
all_seen (Closing ∷ ns) ms e h = left_of ns ms e

-- the frames in one envelope list after another
pub frames_in-append : (es fs : List (Box Envelope Global))
    → frames_in (es ++ fs) ≡ frames_in es ++ frames_in fs
frames_in-append [] fs = refl
frames_in-append (e ∷ es) fs = ap (λ xs. e.value.frame ∷ xs) (frames_in-append es fs)
