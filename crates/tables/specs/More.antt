-- A table with one entry more, which follows the others. Assumes nothing.
use Rattle.std.specs.Prelude.{◌+◌, set}
use Rattle.tables.specs.declared.Cue.{Cue}
use Rattle.tables.specs.declared.Cues.{Cues}
use Rattle.tables.specs.declared.Play.{Play}
use Rattle.tables.specs.declared.Playlist.{Playlist}

unfoldable pub cues_with : Cues → Cue → Cues
cues_with c x = record { count = c.count + 1; list = set c.list c.count x }

unfoldable pub plays_with : Playlist → Play → Playlist
plays_with p x = record { count = p.count + 1; list = set p.list p.count x }
