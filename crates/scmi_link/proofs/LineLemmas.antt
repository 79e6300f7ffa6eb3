-- One more line.
use Rattle.std.proofs.Common.{◌≡◌, List, [], ◌∷◌, ◌++◌, Option, Some, None, refl, sym, ap, ◌∙◌}
use Rattle.std.specs.Option.{option_or}
use Rattle.std.proofs.lemmas.List.{append-nil}
use Rattle.std.proofs.lemmas.List.Elements.{filter_map-append}
use Rattle.scmi_codec.specs.declared.frame.Frame.{Frame}
use Rattle.scmi_link.specs.declared.closing.Closing.{Closing}
use Rattle.scmi_link.specs.declared.line.Line.{Line}
use Rattle.scmi_link.specs.declared.line.Line.TheVariants as line
use Rattle.scmi_link.specs.Lines.{message_of, closing_of, messages_of, first_closing}

pub or_again : (a b c : Option Closing) → option_or (option_or a b) c ≡ option_or a (option_or b c)
or_again None b c = refl
or_again (Some x) b c = refl

or_none : (a : Option Closing) → option_or a None ≡ a
or_none None = refl
or_none (Some x) = refl

first_push : (ls : List Line) (l : Line)
    → first_closing (ls ++ l ∷ []) ≡ option_or (first_closing ls) (closing_of l)
first_push [] l = or_none (closing_of l)
first_push (x ∷ ls) l = ap (option_or (closing_of x)) (first_push ls l)
    ∙ sym (or_again (closing_of x) (first_closing ls) (closing_of l))

-- a line that says nothing about a close
pub closing_stays : (ls ls' : List Line) (l : Line) (closing : Option Closing) → closing
    ≡ first_closing ls → closing_of l ≡ None → ls' ≡ ls ++ l ∷ [] → closing ≡ first_closing ls'
closing_stays ls ls' l closing is none e = is ∙ sym (ap first_closing e ∙ first_push ls l
    ∙ ap (option_or (first_closing ls)) none ∙ or_none (first_closing ls))

-- the line of a close
pub closing_push : (ls ls' : List Line) (closing : Closing) (before after : Option Closing)
    → before ≡ first_closing ls → after ≡ option_or before (Some closing)
    → ls' ≡ ls ++ line.Close closing ∷ [] → after ≡ first_closing ls'
closing_push ls ls' closing before after is now e = now ∙ ap (λ o. option_or o (Some closing)) is
    ∙ sym (ap first_closing e ∙ first_push ls (line.Close closing))

messages_push : (ls ls' : List Line) (l : Line) → ls' ≡ ls ++ l ∷ []
    → messages_of ls' ≡ messages_of ls ++ messages_of (l ∷ [])
messages_push ls ls' l e = ap messages_of e ∙ filter_map-append message_of ls (l ∷ [])

-- a line that is no message
pub messages_stay : (ls ls' : List Line) (l : Line) (fs : List Frame) → messages_of ls ≡ fs
    → message_of l ≡ None → ls' ≡ ls ++ l ∷ [] → messages_of ls' ≡ fs
messages_stay ls ls' l fs is none e = messages_push ls ls' l e
    ∙ ap (λ ms. messages_of ls ++ ms) (none_of l none) ∙ append-nil (messages_of ls) ∙ is where
      none_of : (l : Line) → message_of l ≡ None → messages_of (l ∷ []) ≡ []
      none_of l none = rw none refl

-- the line of a message
pub messages_grow : (ls ls' : List Line) (frame : Frame) (fs fs' : List Frame) → messages_of ls ≡ fs
    → ls' ≡ ls ++ line.P2a frame ∷ [] → fs' ≡ fs ++ frame ∷ [] → messages_of ls' ≡ fs'
messages_grow ls ls' frame fs fs' is e f = messages_push ls ls' (line.P2a frame) e
    ∙ ap (λ ms. ms ++ frame ∷ []) is ∙ sym f
