-- What the command does in a world that tells what lists have.
use Rattle.std.specs.Prelude.{◌≡◌, List, [], Some}
use Rattle.dh_command.specs.declared.statuses.Status.{Status}
use Rattle.dh_command.specs.Words.{Word}
use Rattle.dh_ports.specs.declared.mem_desks.CacheEntry.{CacheEntry}
use Rattle.dh_ports.specs.declared.mem_desks.Content.{Content}
use Rattle.dh_ports.specs.MemDesk.{listed, entry_under}
use Rattle.dh_top.specs.Outside.{Outside}
use Rattle.dh_streams.specs.Streams.{Input, Output}
use Rattle.dh_top.specs.Runs.{Runs}

-- A run of the command where this is found at locations and is in the cache, and nothing else, by a desk that had kept nothing.
pub record RunsOver (words : List Word) (contents : List Content) (cache : List CacheEntry) (input : Input) (out err : Output) (s : Status) : Type 0 where
  pub outside : Outside
  pub told : outside.told ≡ (λ l. Some (listed contents l))
  pub shelved : outside.shelved ≡ (λ d. Some (entry_under cache d))
  pub empty : outside.filed_before ≡ Some []
  pub runs : Runs words input outside out err s
