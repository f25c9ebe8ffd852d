-- The records so far, and those behind them, are all records.
use Rattle.std.proofs.Common.{◌≡◌, ◌++◌, drop}
use Rattle.std.specs.List.{flat_map}
use Rattle.mp_report.specs.Records.{record_text}
use Rattle.mp_commands.proofs.log_printing.push_records.Given as goal

abbrev pub invariant-loop-item : goal.invariant-loop-item
invariant-loop-item l = l.text.items ++ flat_map record_text (drop l.item-index l.records) ≡ l.initial.text.items ++ flat_map record_text l.records
