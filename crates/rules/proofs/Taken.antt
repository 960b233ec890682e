-- A record keeps all the rules where its verdict takes it, and only there. Assumes nothing.
use mathlib.Core.Path.{◌≡◌}
use Rattle.units.specs.declared.BytePlace.{BytePlace}
use Rattle.units.specs.Checks.{AllMet}
use Rattle.units.proofs.Checks.{all-met, met_all}
use Rattle.rules.specs.declared.Record.{Record}
use Rattle.rules.specs.Rules.{record_checks, record_verdict, Writable}
use Rattle.std.specs.Prelude.{Ok}

pub all-kept : {m : Record} {n : BytePlace} → AllMet (record_checks m n) → Writable m n
unfolding record_checks AllMet
all-kept a = record { format = a.0; whole = a.1.0; count = a.1.1.0; cues = a.1.1.1.0; plays = a.1.1.1.1.0 }

pub kept-all : {m : Record} {n : BytePlace} → Writable m n → AllMet (record_checks m n)
unfolding record_checks AllMet
kept-all k = (k.format, (k.whole, (k.count, (k.cues, (k.plays, tt)))))

pub record-keeps : (m : Record) (n : BytePlace) → record_verdict m n ≡ Ok tt → Writable m n
record-keeps m n e = all-kept (all-met (record_checks m n) e)

pub record-taken : {m : Record} {n : BytePlace} → Writable m n → record_verdict m n ≡ Ok tt
record-taken {m} {n} k = met_all (record_checks m n) (kept-all k)
