-- Words of private clauses alone: what one desk has done.
use Rattle.std.specs.Prelude.{◌≡◌, ℕ, Bool, true, false, List}
use Rattle.dh_batch.specs.Dealing.{Chain, dealt}

-- Of n desks the one behind i others, and whether it had memory for its replies: it served its files in turn with these replies, or it
-- served none.
pub record Stood {F D A : Type 0} (replies : F → D → D → A → Type 0) (n i : ℕ) (files : List F) (served : Bool) (before after : D) (done : List A) : Type 0 where
  pub all : served ≡ true → Chain replies before after (dealt n i files) done
  pub none : served ≡ false → after ≡ before
