-- Blocks and elements that are open, as they are kept.
use Rattle.std.specs.Prelude.{◌≡◌, ◌≤◌, Bool, true, false, Option, Some, None, List, [], ◌∷◌, length}
use Rattle.component_meaning.specs.State as state
use Rattle.component_meaning.specs.State.{Declared, Open, area_frame, if_frame, each_frame, element_frame, standing_in, rows_in}
use Rattle.component_frames.specs.declared.block.Block.{Block}
use Rattle.component_frames.specs.declared.block.Frame.{Frame}
use Rattle.component_frames.specs.declared.block.Frame.TheVariants as frame
use Rattle.component_scope.specs.Scope.{oldest}

abbrev pub frame_of : Frame → state.Frame
frame_of (frame.Area id name owner) = area_frame id name owner
frame_of (frame.If id cond) = if_frame id cond
frame_of (frame.Each id rows) = each_frame id rows
frame_of (frame.Element tag closed attrs) = element_frame tag closed attrs

abbrev pub is_area : state.Frame → Bool
is_area (area_frame id name owner) = true
is_area _ = false

abbrev pub is_branch : state.Frame → Bool
is_branch (if_frame id cond) = true
is_branch (each_frame id rows) = true
is_branch _ = false

-- Each began where so many declarations were seen, and what is outside of it is known from that.
abbrev pub opened_in : List Declared → List Block → List Open
opened_in seen [] = []
opened_in seen (b ∷ outer) = record { frame = frame_of b.frame; outside = oldest b.outside seen; items = b.items } ∷ opened_in (oldest b.outside seen) outer

-- What each block knows of what is around it is so.
abbrev pub KnowsAround : List Declared → List Block → Type 0
KnowsAround seen [] = Unit {0}
KnowsAround seen (b ∷ outer) =
    (b.outside ≤ length seen)
    × (b.branched ≡ (standing_in (opened_in seen (b ∷ outer))).branched)
    × (b.rows ≡ rows_in (opened_in seen (b ∷ outer)))
    × KnowsAround (oldest b.outside seen) outer

abbrev pub all_blocks : Option Block → List Block → List Block
all_blocks None outer = []
all_blocks (Some b) outer = b ∷ outer
