-- What the adapters over std's readers and writers hold.
use Rattle.std.specs.Prelude.{ℕ}
use Rattle.mig_bytes.specs.declared.outside.BufferedSource.{BufferedSource}
use Rattle.mig_bytes.specs.declared.outside.InSource.{InSource}
use Rattle.mig_bytes.specs.declared.outside.OutSink.{OutSink}

-- the reader under a source
abbrev pub reader_of : {R : Type 0} → InSource R → R
reader_of s = s.inner

-- how many of its reads failed
abbrev pub failed_reads : {R : Type 0} → InSource R → ℕ
failed_reads s = s.reads_failed

-- the same of a source over a reader that has read ahead
abbrev pub buffered_failures : {R : Type 0} → BufferedSource R → ℕ
buffered_failures s = s.source.reads_failed

-- the writer under a sink
abbrev pub writer_of : {W : Type 0} → OutSink W → W
writer_of s = s.inner

-- how many of its writes failed
abbrev pub failed_writes : {W : Type 0} → OutSink W → ℕ
failed_writes s = s.writes_failed
