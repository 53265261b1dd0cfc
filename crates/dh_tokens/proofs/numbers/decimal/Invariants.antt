use Rattle.std.proofs.Common.{◌≡◌, ◌+◌, take, drop}
use Rattle.std.specs.Char.{is_ascii_digit}
use Rattle.std.specs.List.{prefix_len}
use Rattle.std.specs.Str.Parse.{digits_value}
use Rattle.dh_tokens.proofs.numbers.decimal.Given as goal

abbrev pub invariant-loop-b : goal.invariant-loop-b
invariant-loop-b l = record {
  at : l.n ≡ l.b-index;
  len : prefix_len is_ascii_digit l.rest ≡ l.n + prefix_len is_ascii_digit (drop l.n l.rest);
  value : l.value ≡ digits_value 10 (take l.n l.rest);
}
