-- Components of the program as components of the definition.
use Rattle.std.specs.Prelude.{ℕ, Bool, List, Option, Some, None, if◌then◌else◌}
use Rattle.std.specs.Borrow.{Bor}
use Rattle.dh_syntax.specs.Text.Characters.{is_segment_byte, is_query_byte}
use Rattle.dh_syntax.specs.Text.LexLocations.{Component, Components, path_component, segment}
use Rattle.dh_tokens.specs.declared.components.ComponentKind.{ComponentKind}
use Rattle.dh_tokens.specs.declared.components.ComponentKind.TheVariants as kinds

-- what a component is by where it stands
abbrev pub component_in : ComponentKind → List ℕ → Option Component
component_in kinds.Path = path_component
component_in kinds.Url = segment

-- a byte of a URL's query, or of its path
abbrev pub is_url_byte : Bool → ℕ → Bool
is_url_byte in_query = if in_query then is_query_byte else is_segment_byte

-- a component that was read
abbrev pub component_of : Option (Bor (List ℕ) × ℕ) → Option Component
component_of None = None
component_of (Some c) = Some (record { text = c.0.now; len = c.1 })

-- components that were read
abbrev pub components_of : List (List ℕ) × ℕ → Components
components_of cs = record { texts = cs.0; total = cs.1 }
