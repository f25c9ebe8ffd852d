-- The exit statuses.
use Rattle.std.specs.Prelude.{ℕ}
use Rattle.mp_app.specs.declared.status.Status.{Status}
use Rattle.mp_app.specs.declared.status.Status.TheVariants.{Done, Usage, Script, Store, Stopped, Source, Sink, Disk, Memory}

abbrev pub code_of : Status → ℕ
code_of Done = 0
code_of Usage = 1
code_of Script = 2
code_of Store = 3
code_of Stopped = 4
code_of Source = 5
code_of Sink = 6
code_of Disk = 7
code_of Memory = 8
