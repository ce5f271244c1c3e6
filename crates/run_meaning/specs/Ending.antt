-- How a run ends, and the text that it writes: the report where it is asked for, and then the page, or a line for each load that is pending.
use Rattle.std.specs.Prelude.{◌≡◌, ◌≢◌, ℕ, Bool, if◌then◌else◌, codes, List, [], ◌++◌, map, unwrap_or}
use Rattle.std.specs.List.{flat_map, join_with_byte}
use Rattle.component_items.specs.declared.component.Component.{Component}
use Rattle.component_items.specs.Around.{path_of_id}
use Rattle.html_out.specs.Shown.{text_at}
use Rattle.plain_evaluation.specs.Held.{Held}
use Rattle.plain_evaluation.specs.Page.{page_of}
use Rattle.plain_evaluation.specs.Scratch.{pending}
use Rattle.run_meaning.specs.Phase.{Phase}
use Rattle.run_meaning.specs.Report.{report}

abbrev pub path_text : Component → ℕ → List ℕ
path_text component id = join_with_byte 46 (map (text_at component.texts) (unwrap_or (path_of_id component id) []))

-- the path of the load, its names joined by dots
abbrev pub waiting_line : Component → ℕ → List ℕ
waiting_line component id = codes "waiting " ++ path_text component id ++ codes "\n"

abbrev pub report_if : Bool → Component → List Phase → List ℕ
report_if asked component phases = if asked then report component.texts phases else []

-- nothing is pending in the last state, and the text is the page by plain evaluation
pub record EndsWithPage (component : Component) (phases : List Phase) (last : Held) (asked : Bool) (text : List ℕ) : Type 0 where
  pub none_pending : pending component last ≡ []
  pub text_is : text ≡ report_if asked component phases ++ page_of component last

-- these loads are pending in the last state, in order of declaration, and no page is written
pub record EndsWaiting (component : Component) (phases : List Phase) (last : Held) (asked : Bool) (loads : List ℕ) (text : List ℕ) : Type 0 where
  pub some_pending : loads ≢ []
  pub loads_are : loads ≡ pending component last
  pub text_is : text ≡ report_if asked component phases ++ flat_map (waiting_line component) loads
