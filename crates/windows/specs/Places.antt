-- What a window's places hold. Assumes nothing.
use Rattle.std.specs.Prelude.{◌≡◌, ◌+◌, ◌-◌, ◌≤◌, length}
use Rattle.windows.specs.declared.window.Window.TheInside.{Inside}
use Rattle.windows.specs.Windows.{View, ring}

abbrev pub view_of : Inside → View
view_of w = record { start = w.start; tokens = ring w.places w.start (w.end - w.start); capacity = w.capacity }

-- what is true of every window
pub record Kept (w : Inside) : Type 0 where
  pub whole : length w.places ≡ 2048
  pub admitted : w.capacity ≤ 2048
  pub ordered : w.start ≤ w.end
  pub fits : w.end ≤ w.start + 2048
  pub few : w.end ≤ 1048576
