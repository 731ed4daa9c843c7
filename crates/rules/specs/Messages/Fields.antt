-- Fields by name, of the messages whose head the rules look at; Start Read's stand with its rules.
use Rattle.std.specs.Prelude.{ℕ}
use Rattle.rules.specs.Messages.Forms.{Message, field_at}

module _ {D : Type 0} where
  -- Read Data, CCCC
  abbrev pub completion_code : Message D → ℕ
  completion_code m = field_at m 0

  -- Unread, C: 0 always, 1 only if nothing was typed
  abbrev pub unread_condition : Message D → ℕ
  unread_condition m = field_at m 0

  -- Write, UU
  abbrev pub lock : Message D → ℕ
  lock m = field_at m 0

  -- L
  abbrev pub newline : Message D → ℕ
  newline m = field_at m 1

  -- D: don't discard
  abbrev pub keeps_output : Message D → ℕ
  keeps_output m = field_at m 2

  -- PP
  abbrev pub prefix : Message D → ℕ
  prefix m = field_at m 5

  -- QQ
  abbrev pub postfix : Message D → ℕ
  postfix m = field_at m 6

  -- S
  abbrev pub wants_completion : Message D → ℕ
  wants_completion m = field_at m 7

  -- T
  abbrev pub transparent : Message D → ℕ
  transparent m = field_at m 8

  abbrev pub prefix_value : Message D → ℕ
  prefix_value m = field_at m 9

  abbrev pub postfix_value : Message D → ℕ
  postfix_value m = field_at m 10

abbrev pub unread_always : ℕ
unread_always = 0

-- UU: 1 locks; any other leaves the line unlocked, and 3 redisplays
abbrev pub leaves_locked : ℕ
leaves_locked = 1

abbrev pub redisplay_after : ℕ
redisplay_after = 3

-- PP and QQ: 0 is none, 1 a number of lines, 2 a character
abbrev pub new_lines : ℕ
new_lines = 1

abbrev pub character : ℕ
character = 2
