-- The items of a line, one after another.
use Rattle.std.proofs.Common.{◌≡◌, ℕ, Bool, true, false, List, [], ◌∷◌, ◌++◌, if◌then◌else◌, Option, Some, None, sym, ap, ◌∙◌}
use Rattle.std.proofs.lemmas.List.{append-nil}
use Rattle.scmi_board.specs.Items.{ItemsView, first_item, no_item}
use Rattle.scmi_board.specs.LineError.{Fails, FailsUnless}
use Rattle.scmi_board.specs.declared.line_error.LineError.{LineError}
use Rattle.scmi_board.specs.declared.line_error.LineError.TheVariants.{Form, Memory}

-- these items and those that are left, where their spaces have no fault
abbrev pub items_behind : List (List ℕ) → ItemsView → Option (List (List ℕ))
items_behind so_far view = if view.whole then Some (so_far ++ view.items) else None

abbrev view_of : List (List ℕ) → Bool → ItemsView
view_of items whole = record { items = items; whole = whole }

stop_of : (so_far items : List (List ℕ)) (whole : Bool) → first_item (view_of items whole) ≡ None
    → no_item (view_of items whole) ≡ None → items_behind so_far (view_of items whole) ≡ None
stop_of so_far [] true is some = absurd cc
stop_of so_far [] false is some = cc
stop_of so_far (item ∷ items) whole is some = absurd cc

pub item_fails : (so_far : List (List ℕ)) (view : ItemsView) (total : Option (List (List ℕ)))
    (error : LineError) → Fails error (first_item view) → no_item view ≡ None
    → items_behind so_far view ≡ total → FailsUnless error total
item_fails so_far view total Form is some now = sym now
    ∙ stop_of so_far view.items view.whole is some
item_fails so_far view total Memory is some now = tt

done_of : (so_far items : List (List ℕ)) (whole : Bool) → no_item (view_of items whole) ≡ Some tt
    → items_behind so_far (view_of items whole) ≡ Some so_far
done_of so_far [] true none = ap Some (append-nil so_far)
done_of so_far [] false none = absurd cc
done_of so_far (item ∷ items) whole none = absurd cc

pub items_done : (so_far : List (List ℕ)) (view : ItemsView) (total : Option (List (List ℕ)))
    → no_item view ≡ Some tt → items_behind so_far view ≡ total → total ≡ Some so_far
items_done so_far view total none now = sym now ∙ done_of so_far view.items view.whole none
