-- The bench table: page 01's starred cases, and rows of our own.
use Rattle.std.specs.Prelude.{◌-◌, List, [], ◌∷◌, ◌++◌, length, take, replicate}
use Rattle.rules.specs.Choice.{joined}
use Rattle.rules.specs.Numbers.{terminal_area, message_area, type_ahead_size, accepted, small_area, wrong_length, wrong_type, wrong_time, unsound, not_carried, unsound_record, too_large}
use Rattle.rules.specs.Messages.Forms.{start_read}
use Rattle.rules.specs.Screen.{HT, DEL}
use Rattle.rules.specs.Token.{ESC}
use Rattle.rules.specs.Editing.{delete_word_key, redisplay_key}
use Rattle.rules.specs.Arrival.{quote_key, clear_key, discard_key}
use Rattle.rules.specs.Calls.{key, tick}
use Rattle.rules.specs.Bench.{Case, reads, copies, asks, moves, runs, asked, says, typed, stored, stepped, told, initiated, start_a, started_a, set_of_code, raising_read, timed_read, timed_out}
use Rattle.rules.specs.Bench.{wrote, wrote_nothing, completed, discard_state, flipped, attribute, out_of_band, recognising, waiting, typed_unseen, token_typed, loading, empty_record, switch_record}
use Rattle.rules.specs.Bench.{attribute_record, set_record, largest_read_record, full_record, in_order}

-- The starred cases in order; D and H have two rows each. Request M-101 adds two.
unfoldable pub starred : List Case
starred =
    -- A: UU 1, T 1, ZZ 2, 80 characters, prompt "? "
    reads start_a
    (record {
      kind = start_read;
      numbers =
          in_order
          (record {
            underflow = 1;
            clears_type_ahead = 0;
            formats = 0;
            vertical = 0;
            continues = 0;
            raises = 0;
            disables = 0;
            silent = 0;
            terminator_echo = 1;
            timed = 0;
            set_choice = 2;
            escapes = 0;
            max_length = 80;
            end_of_data = 2;
            timeout = 0;
            end_of_prompt = 2;
            start_of_display = 0;
            low_water = 2;
          });
      set = [];
      parameters = [];
      text = 0x3F ∷ 0x20 ∷ [];
    }) ∷
    -- B: 4 DEL 3 5 CR
    runs
    (initiated ∷ started_a ∷
    typed 0x34 (0x34 ∷ []) [] ∷
    typed DEL (0x08 ∷ 0x20 ∷ 0x08 ∷ []) [] ∷
    typed 0x33 (0x33 ∷ []) [] ∷
    typed 0x35 (0x35 ∷ []) [] ∷
    typed 0x0D (0x0D ∷ 0x0A ∷ []) (0x0B ∷ 0x00 ∷ 0x03 ∷ 0x00 ∷ 0x02 ∷ 0x00 ∷ 0x01 ∷ 0x00 ∷ 0x02 ∷ 0x00 ∷ 0x33 ∷ 0x35 ∷ 0x0D ∷ []) ∷ []) ∷
    -- C: A without its last byte
    runs (initiated ∷ told (take (length start_a - 1) start_a) unsound [] [] ∷ []) ∷
    -- D: END-OF-DATA 1,024 of 1,024 completes at once, the column at its top; MAX-LENGTH 1,025 is 5
    runs
    (initiated ∷
    told ((0x02 ∷ 0x00 ∷ 0x00 ∷ 0x00 ∷ 0x00 ∷ 0x04 ∷ 0x00 ∷ 0x04 ∷ 0x00 ∷ 0x00 ∷ 0x00 ∷ 0x00 ∷ 0x00 ∷ 0x00 ∷ 0x00 ∷ 0x04 ∷ 0x00 ∷ []) ++ replicate 1024 0x41) accepted (replicate 1024 0x41)
    ((0x08 ∷ 0x04 ∷ 0x03 ∷ 0x04 ∷ 0x00 ∷ 0x04 ∷ 0x00 ∷ 0xE7 ∷ 0x00 ∷ 0x04 ∷ []) ++ replicate 1024 0x41) ∷ []) ∷
    runs (initiated ∷ told (0x02 ∷ 0x00 ∷ 0x00 ∷ 0x00 ∷ 0x01 ∷ 0x04 ∷ 0x00 ∷ 0x00 ∷ 0x00 ∷ 0x00 ∷ 0x00 ∷ 0x00 ∷ 0x00 ∷ 0x00 ∷ 0x00 ∷ 0x00 ∷ 0x00 ∷ []) unsound [] [] ∷ []) ∷
    -- E: MAX-LENGTH 0, buffer full, no data
    runs (initiated ∷ told (0x02 ∷ 0x00 ∷ 0x00 ∷ 0x00 ∷ 0x00 ∷ 0x00 ∷ 0x00 ∷ 0x00 ∷ 0x00 ∷ 0x00 ∷ 0x00 ∷ 0x00 ∷ 0x00 ∷ 0x00 ∷ 0x00 ∷ 0x00 ∷ 0x00 ∷ []) accepted [] (0x08 ∷ 0x00 ∷ 0x03 ∷ 0x04 ∷ 0x00 ∷ 0x00 ∷ 0x00 ∷ 0x00 ∷ 0x00 ∷ 0x00 ∷ []) ∷ []) ∷
    -- F: DEL at once
    runs (initiated ∷ started_a ∷ typed DEL (0x07 ∷ []) [] ∷ []) ∷
    -- G: 22, then 13 as data, which is returned with the 13 that ends the read
    runs
    (initiated ∷ started_a ∷ typed quote_key [] [] ∷
    typed 0x0D (0x5E ∷ 0x4D ∷ []) [] ∷
    typed 0x0D (0x0D ∷ 0x0A ∷ []) (0x0A ∷ 0x00 ∷ 0x03 ∷ 0x00 ∷ 0x02 ∷ 0x00 ∷ 0x01 ∷ 0x00 ∷ 0x01 ∷ 0x00 ∷ 0x0D ∷ 0x0D ∷ []) ∷ []) ∷
    -- H: recognition on; a valid and an invalid token
    token_typed (27 ∷ 91 ∷ 65 ∷ []) 0x01 ∷
    token_typed (27 ∷ 91 ∷ 7 ∷ []) 0x02 ∷
    -- I: room for 2, token of 3
    runs
    (initiated ∷ recognising ∷ told (0x02 ∷ 0x00 ∷ 0x80 ∷ 0x00 ∷ 0x02 ∷ 0x00 ∷ 0x00 ∷ 0x00 ∷ 0x00 ∷ 0x00 ∷ 0x00 ∷ 0x00 ∷ 0x00 ∷ 0x00 ∷ 0x00 ∷ 0x00 ∷ 0x00 ∷ []) accepted [] [] ∷
    typed_unseen (27 ∷ 91 ∷ 65 ∷ []) (0x08 ∷ 0x00 ∷ 0x03 ∷ 0x18 ∷ 0x00 ∷ 0x00 ∷ 0x00 ∷ 0x00 ∷ 0x00 ∷ 0x00 ∷ [])) ∷
    -- J: the 65th waiting key
    runs
    (initiated ∷
    (replicate type_ahead_size (stored 0x30) ++
    asked terminal_area message_area (key 0x30) accepted (0x07 ∷ []) [] 1 ∷ [])) ∷
    -- M-101: PF1 leaves no letter behind, nor does 27 63 65
    token_typed (27 ∷ 79 ∷ 80 ∷ []) 0x01 ∷
    token_typed (27 ∷ 63 ∷ 65 ∷ []) 0x01 ∷ []

-- Rows of our own, for mistakes that the starred cases do not show: those that page 01 warns of, those that raising, settings, tokens, Writes and the keystroke invite, and some that edits of the definitions make.
unfoldable pub warned : List Case
warned =
    -- waiting for one more key after the buffer is full
    runs
    (initiated ∷ told (0x02 ∷ 0x00 ∷ 0x80 ∷ 0x00 ∷ 0x02 ∷ 0x00 ∷ 0x00 ∷ 0x00 ∷ 0x00 ∷ 0x00 ∷ 0x00 ∷ 0x00 ∷ 0x00 ∷ 0x00 ∷ 0x00 ∷ 0x00 ∷ 0x00 ∷ []) accepted [] [] ∷
    typed 0x31 (0x31 ∷ []) [] ∷
    typed 0x32 (0x32 ∷ []) (0x0A ∷ 0x00 ∷ 0x03 ∷ 0x04 ∷ 0x00 ∷ 0x00 ∷ 0x00 ∷ 0x02 ∷ 0x02 ∷ 0x00 ∷ 0x31 ∷ 0x32 ∷ []) ∷ []) ∷
    -- testing the set before raising: "a", raised, is the terminator "A"
    runs
    (initiated ∷ raising_read (replicate 8 0x00 ++ (0x02 ∷ [])) [] ∷
    typed 0x61 [] (0x09 ∷ 0x00 ∷ 0x03 ∷ 0x00 ∷ 0x00 ∷ 0x00 ∷ 0x00 ∷ 0x00 ∷ 0x00 ∷ 0x00 ∷ 0x41 ∷ []) ∷ []) ∷
    -- quoting after out-of-band: a quoted hello character is data
    runs
    (initiated ∷ attribute 3 0x03 ∷ started_a ∷ typed quote_key [] [] ∷ typed 3 (0x5E ∷ 0x43 ∷ []) [] ∷ []) ∷
    -- rubbing out a tab as one column: from column 2 it is six
    runs
    (initiated ∷ started_a ∷
    typed HT (replicate 6 0x20) [] ∷ typed DEL (joined (replicate 6 (0x08 ∷ 0x20 ∷ 0x08 ∷ []))) [] ∷ []) ∷
    -- echoing with a changed characteristic in mid read
    runs (initiated ∷ started_a ∷ told (0x0B ∷ 0x00 ∷ 0x05 ∷ 0x02 ∷ 0x00 ∷ []) accepted [] [] ∷ typed 0x31 (0x31 ∷ []) [] ∷ []) ∷
    -- a refused message leaves the read and what was typed as they were
    runs
    (initiated ∷ started_a ∷ told start_a wrong_time [] [] ∷
    typed 0x31 (0x31 ∷ []) [] ∷
    typed 0x0D (0x0D ∷ 0x0A ∷ []) (0x0A ∷ 0x00 ∷ 0x03 ∷ 0x00 ∷ 0x02 ∷ 0x00 ∷ 0x01 ∷ 0x00 ∷ 0x01 ∷ 0x00 ∷ 0x31 ∷ 0x0D ∷ []) ∷ []) ∷
    -- no second counts while a key waits; the read ends with the TIMEOUT-th that does
    runs
    (initiated ∷ stored 0x31 ∷ timed_read 0x01 ∷
    says tick accepted [] [] ∷ stepped (0x31 ∷ []) [] ∷
    says tick accepted [] (0x09 ∷ 0x00 ∷ 0x03 ∷ 0x05 ∷ 0x00 ∷ 0x00 ∷ 0x00 ∷ 0x01 ∷ 0x01 ∷ 0x00 ∷ 0x31 ∷ []) ∷ []) ∷
    -- redisplay: a new line, the prompt and what was typed
    runs (initiated ∷ started_a ∷ typed 0x31 (0x31 ∷ []) [] ∷ typed redisplay_key (0x0D ∷ 0x0A ∷ 0x3F ∷ 0x20 ∷ 0x31 ∷ []) [] ∷ []) ∷
    -- 127 as data, and rubbed out again: two marks
    runs (initiated ∷ started_a ∷ typed quote_key [] [] ∷ typed DEL (0x5E ∷ 0x3F ∷ []) [] ∷ typed DEL (joined (replicate 2 (0x08 ∷ 0x20 ∷ 0x08 ∷ []))) [] ∷ []) ∷
    -- an attribute changes where the mask has 1, a switch alone
    runs
    (initiated ∷ told (0x0B ∷ 0x00 ∷ 0x02 ∷ 0x02 ∷ 0x41 ∷ 0x0C ∷ 0x0F ∷ 0x05 ∷ 0x02 ∷ 0x00 ∷ []) accepted [] [] ∷
    told (0x0A ∷ 0x00 ∷ 0x02 ∷ 0x02 ∷ 0x41 ∷ 0x04 ∷ 0x02 ∷ 0x05 ∷ 0x02 ∷ 0x06 ∷ 0x02 ∷ 0x09 ∷ 0x02 ∷ []) accepted []
    (0x13 ∷ 0x00 ∷ 0x0B ∷ 0x00 ∷ 0x02 ∷ 0x02 ∷ 0x41 ∷ 0x7F ∷ 0x0C ∷ 0x04 ∷ 0x02 ∷ 0x00 ∷ 0x05 ∷ 0x02 ∷ 0x00 ∷ 0x06 ∷ 0x02 ∷ 0x00 ∷ 0x09 ∷ 0x02 ∷ 0x00 ∷ []) ∷ []) ∷
    -- 59, 63, 79 and 91 begin forms of their own straight after 27 and nowhere else
    token_typed (27 ∷ 32 ∷ 59 ∷ []) 0x01 ∷
    token_typed (27 ∷ 32 ∷ 63 ∷ []) 0x01 ∷
    token_typed (27 ∷ 32 ∷ 79 ∷ []) 0x01 ∷
    token_typed (27 ∷ 59 ∷ 59 ∷ []) 0x01 ∷
    token_typed (27 ∷ 63 ∷ 79 ∷ []) 0x01 ∷
    token_typed (27 ∷ 91 ∷ 79 ∷ []) 0x01 ∷
    token_typed (155 ∷ 79 ∷ []) 0x01 ∷
    token_typed (27 ∷ 59 ∷ 91 ∷ []) 0x01 ∷
    token_typed (27 ∷ 63 ∷ 91 ∷ []) 0x01 ∷
    token_typed (27 ∷ 79 ∷ 91 ∷ []) 0x01 ∷
    -- a final byte is one of 48 to 126 behind 27 59 and 27 63, and of 64 to 126 behind 27 79
    token_typed (27 ∷ 59 ∷ 48 ∷ []) 0x01 ∷
    token_typed (27 ∷ 59 ∷ 126 ∷ []) 0x01 ∷
    token_typed (27 ∷ 59 ∷ 127 ∷ []) 0x02 ∷
    token_typed (27 ∷ 63 ∷ 48 ∷ []) 0x01 ∷
    token_typed (27 ∷ 63 ∷ 126 ∷ []) 0x01 ∷
    token_typed (27 ∷ 63 ∷ 127 ∷ []) 0x02 ∷
    token_typed (27 ∷ 79 ∷ 48 ∷ []) 0x02 ∷
    token_typed (27 ∷ 79 ∷ 63 ∷ []) 0x02 ∷
    token_typed (27 ∷ 79 ∷ 64 ∷ []) 0x01 ∷
    token_typed (27 ∷ 79 ∷ 126 ∷ []) 0x01 ∷
    token_typed (27 ∷ 79 ∷ 127 ∷ []) 0x02 ∷
    -- any number of 32 to 47 may stand before it
    token_typed (27 ∷ 59 ∷ 32 ∷ 47 ∷ 48 ∷ []) 0x01 ∷
    token_typed (27 ∷ 63 ∷ 32 ∷ 47 ∷ 48 ∷ []) 0x01 ∷
    token_typed (27 ∷ 79 ∷ 32 ∷ 47 ∷ 63 ∷ []) 0x02 ∷
    token_typed (27 ∷ 79 ∷ 32 ∷ 47 ∷ 64 ∷ []) 0x01 ∷
    -- Check Input counts the keys that wait and the bytes of a token
    runs (initiated ∷ recognising ∷ stored ESC ∷ stored 0x31 ∷ stored 0x32 ∷ started_a ∷ stepped [] [] ∷ waiting 3 ∷ []) ∷
    -- messages of 2,048 bytes and one more: too long goes before the type
    runs (initiated ∷ told (replicate 2048 0x00) wrong_type [] [] ∷ told (replicate 2049 0x00) wrong_length [] [] ∷ []) ∷
    copies (replicate 2048 0x00) wrong_type [] ∷
    copies (replicate 2049 0x00) wrong_length [] ∷
    -- a termination set of 33 bytes
    runs (initiated ∷ told (0x02 ∷ 0x00 ∷ 0x50 ∷ 0x00 ∷ 0x50 ∷ 0x00 ∷ 0x00 ∷ 0x00 ∷ 0x00 ∷ 0x00 ∷ 0x00 ∷ 0x00 ∷ 0x00 ∷ 0x00 ∷ 0x00 ∷ 0x00 ∷ 0x21 ∷ replicate 33 0) unsound [] [] ∷ []) ∷
    -- fields that the line ignores are kept, and unused bits are written 0
    copies (0x02 ∷ 0x01 ∷ 0x90 ∷ 0xFC ∷ 0x50 ∷ 0x00 ∷ 0x02 ∷ 0x00 ∷ 0x07 ∷ 0x00 ∷ 0x02 ∷ 0x00 ∷ 0x00 ∷ 0x00 ∷ 0x02 ∷ 0x00 ∷ 0x02 ∷ 0xFF ∷ 0x00 ∷ 0x3F ∷ 0x20 ∷ []) accepted
    (0x02 ∷ 0x01 ∷ 0x90 ∷ 0x00 ∷ 0x50 ∷ 0x00 ∷ 0x02 ∷ 0x00 ∷ 0x07 ∷ 0x00 ∷ 0x02 ∷ 0x00 ∷ 0x00 ∷ 0x00 ∷ 0x02 ∷ 0x00 ∷ 0x02 ∷ 0xFF ∷ 0x00 ∷ 0x3F ∷ 0x20 ∷ []) ∷
    copies (0x0B ∷ 0xFF ∷ 0x02 ∷ 0x02 ∷ 0x41 ∷ 0xFF ∷ 0x83 ∷ 0x09 ∷ 0x02 ∷ 0xFF ∷ 0x0A ∷ 0x02 ∷ 0xF5 ∷ []) accepted
    (0x0B ∷ 0x00 ∷ 0x02 ∷ 0x02 ∷ 0x41 ∷ 0xFF ∷ 0x03 ∷ 0x09 ∷ 0x02 ∷ 0x01 ∷ 0x0A ∷ 0x02 ∷ 0x05 ∷ []) ∷
    -- a section's length is read low byte first
    asks 2 (attribute_record 2 (0x41 ∷ 0x04 ∷ [])) empty_record (0x41 ∷ 0x04 ∷ []) ∷
    -- the own record's section goes before the site's
    asks 4 (largest_read_record 1 (80 ∷ [])) (largest_read_record 1 (72 ∷ [])) (80 ∷ []) ∷
    asks 4 empty_record (largest_read_record 1 (72 ∷ [])) (72 ∷ []) ∷
    -- unsound records: a set that ends in 0; a byte behind the last section; a code twice; deferred-clear; a largest read of 133; a switch of 2; a site record of form 3, and one that is cut short
    asks 3 (set_record 2 (0x01 ∷ 0x00 ∷ [])) empty_record [] ∷
    asks 4 (largest_read_record 1 (80 ∷ []) ++ (0x00 ∷ [])) empty_record [] ∷
    asks 2 (attribute_record 4 (0x41 ∷ 0x04 ∷ 0x41 ∷ 0x08 ∷ [])) empty_record [] ∷
    asks 2 (attribute_record 2 (0x41 ∷ 0x02 ∷ [])) empty_record [] ∷
    asks 4 (largest_read_record 1 (132 ∷ [])) empty_record (132 ∷ []) ∷
    asks 4 (largest_read_record 1 (133 ∷ [])) empty_record [] ∷
    asks 1 (switch_record 12 (0x04 ∷ 0x02 ∷ 0x00 ∷ 0x05 ∷ 0x02 ∷ 0x02 ∷ 0x06 ∷ 0x02 ∷ 0x00 ∷ 0x09 ∷ 0x02 ∷ 0x00 ∷ [])) empty_record [] ∷
    asks 4 (largest_read_record 1 (80 ∷ [])) (largest_read_record 3 []) [] ∷
    asks 4 (largest_read_record 1 (80 ∷ [])) (0x02 ∷ []) [] ∷
    -- M-107, forms: in form 2 two bytes, low byte first, up to 1,024, and in form 1 one; mixed records are asked as each has it
    asks 4 (largest_read_record 2 (0x00 ∷ 0x04 ∷ [])) empty_record (0x00 ∷ 0x04 ∷ []) ∷
    asks 4 (largest_read_record 2 (0x01 ∷ 0x04 ∷ [])) empty_record [] ∷
    asks 4 (largest_read_record 2 (0x84 ∷ [])) empty_record [] ∷
    asks 4 (largest_read_record 1 (0x84 ∷ 0x00 ∷ [])) empty_record [] ∷
    asks 4 (largest_read_record 1 (0x84 ∷ [])) (largest_read_record 2 (0x84 ∷ 0x00 ∷ [])) (0x84 ∷ []) ∷
    asks 4 (largest_read_record 2 (0x84 ∷ 0x00 ∷ [])) (largest_read_record 1 (0x50 ∷ [])) (0x84 ∷ 0x00 ∷ []) ∷
    asks 4 (largest_read_record 2 []) (largest_read_record 1 (0x84 ∷ [])) (0x84 ∷ []) ∷
    asks 4 empty_record (largest_read_record 2 (0x84 ∷ 0x00 ∷ [])) (0x84 ∷ 0x00 ∷ []) ∷
    -- moving: a record without anything, one of a largest read of 0, and one of all sections, to form 2 and back
    moves 2 600 empty_record accepted (largest_read_record 2 []) ∷
    moves 1 600 (largest_read_record 2 []) accepted empty_record ∷
    moves 2 600 (largest_read_record 1 (0x00 ∷ [])) accepted (largest_read_record 2 (0x00 ∷ 0x00 ∷ [])) ∷
    moves 1 600 (largest_read_record 2 (0x00 ∷ 0x00 ∷ [])) accepted (largest_read_record 1 (0x00 ∷ [])) ∷
    moves 2 600 (full_record 1 (0x50 ∷ [])) accepted (full_record 2 (0x50 ∷ 0x00 ∷ [])) ∷
    moves 1 600 (full_record 2 (0x50 ∷ 0x00 ∷ [])) accepted (full_record 1 (0x50 ∷ [])) ∷
    -- form 1 holds 132 and no more: 8 at 133, and where the low byte alone would fit
    moves 1 600 (largest_read_record 2 (0x84 ∷ 0x00 ∷ [])) accepted (largest_read_record 1 (0x84 ∷ [])) ∷
    moves 1 600 (largest_read_record 2 (0x85 ∷ 0x00 ∷ [])) too_large [] ∷
    moves 1 600 (largest_read_record 2 (0x50 ∷ 0x01 ∷ [])) too_large [] ∷
    -- a largest read over 1,024 is 7, and so is a record that has the form already; the area goes before both
    moves 1 600 (largest_read_record 2 (0x01 ∷ 0x04 ∷ [])) unsound_record [] ∷
    moves 1 600 (0x02 ∷ []) unsound_record [] ∷
    moves 1 600 empty_record unsound_record [] ∷
    moves 2 600 (largest_read_record 2 []) unsound_record [] ∷
    moves 1 599 (largest_read_record 2 (0x85 ∷ 0x00 ∷ [])) small_area [] ∷
    moves 2 599 [] small_area [] ∷
    -- loaded attributes are all of them: a code that is not listed has 0
    runs
    (initiated ∷ attribute 0x41 0x04 ∷
    loading (attribute_record 2 (0x42 ∷ 0x04 ∷ [])) empty_record accepted ∷
    told (0x0A ∷ 0x00 ∷ 0x02 ∷ 0x02 ∷ 0x41 ∷ 0x02 ∷ 0x02 ∷ 0x42 ∷ []) accepted []
    (0x0C ∷ 0x00 ∷ 0x0B ∷ 0x00 ∷ 0x02 ∷ 0x02 ∷ 0x41 ∷ 0x7F ∷ 0x00 ∷ 0x02 ∷ 0x02 ∷ 0x42 ∷ 0x7F ∷ 0x04 ∷ []) ∷ []) ∷
    -- a largest read, loaded before Initiate: one more is 5, before V's 6, and as many are taken
    runs
    (loading (largest_read_record 1 (80 ∷ [])) empty_record accepted ∷ initiated ∷
    told (0x02 ∷ 0x11 ∷ 0x90 ∷ 0x00 ∷ 0x51 ∷ 0x00 ∷ 0x02 ∷ 0x00 ∷ 0x00 ∷ 0x00 ∷ 0x02 ∷ 0x00 ∷ 0x00 ∷ 0x00 ∷ 0x02 ∷ 0x00 ∷ 0x00 ∷ 0x3F ∷ 0x20 ∷ []) unsound [] [] ∷
    told (0x02 ∷ 0x11 ∷ 0x90 ∷ 0x00 ∷ 0x50 ∷ 0x00 ∷ 0x02 ∷ 0x00 ∷ 0x00 ∷ 0x00 ∷ 0x02 ∷ 0x00 ∷ 0x00 ∷ 0x00 ∷ 0x02 ∷ 0x00 ∷ 0x00 ∷ 0x3F ∷ 0x20 ∷ []) not_carried [] [] ∷
    started_a ∷ []) ∷
    -- and in form 2 beside a record of form 1: of 515 (0x0203) one more is 5, and as many are taken
    runs
    (loading empty_record (largest_read_record 2 (0x03 ∷ 0x02 ∷ [])) accepted ∷ initiated ∷
    told (0x02 ∷ 0x00 ∷ 0x00 ∷ 0x00 ∷ 0x04 ∷ 0x02 ∷ replicate 11 0x00) unsound [] [] ∷
    told (0x02 ∷ 0x00 ∷ 0x00 ∷ 0x00 ∷ 0x03 ∷ 0x02 ∷ replicate 11 0x00) accepted [] [] ∷ []) ∷
    -- a loaded set is the one that ZZ 0 looks at: "A" ends the read
    runs
    (initiated ∷ loading (set_record 9 (replicate 8 0x00 ++ (0x02 ∷ []))) empty_record accepted ∷
    told (0x02 ∷ 0x01 ∷ 0x10 ∷ 0x00 ∷ 0x50 ∷ 0x00 ∷ 0x02 ∷ 0x00 ∷ 0x00 ∷ 0x00 ∷ 0x02 ∷ 0x00 ∷ 0x00 ∷ 0x00 ∷ 0x02 ∷ 0x00 ∷ 0x00 ∷ 0x3F ∷ 0x20 ∷ []) accepted (0x3F ∷ 0x20 ∷ []) [] ∷
    typed 0x41 (0x41 ∷ []) (0x09 ∷ 0x00 ∷ 0x03 ∷ 0x00 ∷ 0x02 ∷ 0x00 ∷ 0x00 ∷ 0x03 ∷ 0x00 ∷ 0x00 ∷ 0x41 ∷ []) ∷ []) ∷
    -- echo turned off in mid read: the read keeps its own, and the next one does not echo
    runs
    (initiated ∷ started_a ∷
    loading (switch_record 12 (0x04 ∷ 0x02 ∷ 0x00 ∷ 0x05 ∷ 0x02 ∷ 0x00 ∷ 0x06 ∷ 0x02 ∷ 0x00 ∷ 0x09 ∷ 0x02 ∷ 0x00 ∷ [])) empty_record accepted ∷
    typed 0x31 (0x31 ∷ []) [] ∷
    typed 0x0D (0x0D ∷ 0x0A ∷ []) (0x0A ∷ 0x00 ∷ 0x03 ∷ 0x00 ∷ 0x02 ∷ 0x00 ∷ 0x01 ∷ 0x00 ∷ 0x01 ∷ 0x00 ∷ 0x31 ∷ 0x0D ∷ []) ∷
    started_a ∷ typed 0x31 [] [] ∷ []) ∷
    -- a refused load, which is no record or one of form 3, leaves the line as it was
    runs
    (initiated ∷ loading empty_record [] unsound_record ∷ loading (largest_read_record 1 (1 ∷ [])) (largest_read_record 3 []) unsound_record ∷ started_a ∷ []) ∷
    -- M-103, six rows. A half-typed answer: an alarm locks (UU 1, PP 1 of one line), a key waits, and behind the unlock (UU 3, QQ 2, S) the keeper sees the answer again; Write Completion counts the "!" and not the redisplay
    runs
    (initiated ∷ started_a ∷
    typed 0x34 (0x34 ∷ []) [] ∷
    wrote 0x41 0x00 0x01 0x00 (0x55 ∷ 0x50 ∷ []) (0x0D ∷ 0x0A ∷ 0x55 ∷ 0x50 ∷ []) [] ∷
    stored 0x32 ∷ stepped [] [] ∷
    wrote 0x03 0x06 0x00 0x21 [] (0x21 ∷ 0x0D ∷ 0x0A ∷ 0x3F ∷ 0x20 ∷ 0x34 ∷ []) (completed 0 1 0) ∷
    stepped (0x32 ∷ []) [] ∷
    typed 0x0D (0x0D ∷ 0x0A ∷ []) (0x0B ∷ 0x00 ∷ 0x03 ∷ 0x00 ∷ 0x02 ∷ 0x00 ∷ 0x03 ∷ 0x00 ∷ 0x02 ∷ 0x00 ∷ 0x34 ∷ 0x32 ∷ 0x0D ∷ []) ∷ []) ∷
    -- locked, a read with Q and TIMEOUT 0 does not complete; UU 2 unlocks
    runs
    (initiated ∷ timed_read 0x00 ∷
    wrote_nothing 0x01 ∷ stepped [] [] ∷
    wrote_nothing 0x02 ∷ stepped [] timed_out ∷ []) ∷
    -- L, and a write that begins with LF, which is left out and moves nothing; then another, whose LF is written; L's own is never left out
    runs
    (initiated ∷
    wrote 0x04 0x00 0x00 0x00 (0x41 ∷ []) (0x41 ∷ 0x0A ∷ []) [] ∷
    wrote 0x00 0x04 0x00 0x00 (0x0A ∷ 0x42 ∷ []) (0x42 ∷ []) (completed 0 1 0) ∷
    wrote 0x04 0x00 0x00 0x00 (0x0A ∷ 0x43 ∷ []) (0x0A ∷ 0x43 ∷ 0x0A ∷ []) [] ∷
    wrote 0x04 0x04 0x00 0x00 [] (0x0A ∷ []) (completed 0 0 1) ∷
    -- the mark looks at a prefix first, and at a postfix where it is the only byte
    wrote 0x84 0x00 0x0A 0x00 (0x0A ∷ []) (0x0A ∷ 0x0A ∷ []) [] ∷
    wrote 0x00 0x02 0x00 0x0A [] [] [] ∷
    wrote 0x00 0x02 0x00 0x0A [] (0x0A ∷ []) [] ∷ []) ∷
    -- the same under discard: nothing is written, the mark stays, and what is lost is reported, L's LF alone too; no byte at all is not lost
    runs
    (initiated ∷
    wrote 0x04 0x00 0x00 0x00 (0x41 ∷ []) (0x41 ∷ 0x0A ∷ []) [] ∷
    flipped 0 ∷
    wrote 0x00 0x04 0x00 0x00 (0x0A ∷ 0x42 ∷ []) [] (completed 1 0 0) ∷
    wrote 0x04 0x04 0x00 0x00 [] [] (completed 1 0 0) ∷
    wrote 0x40 0x04 0x00 0x00 [] [] (completed 1 0 0) ∷
    wrote 0x00 0x04 0x09 0x09 [] [] (completed 0 0 0) ∷
    wrote 0x08 0x00 0x00 0x00 (0x0A ∷ 0x42 ∷ []) (0x42 ∷ []) [] ∷
    -- nor does a discarded L set it
    flipped 0 ∷
    wrote 0x04 0x00 0x00 0x00 (0x43 ∷ []) [] [] ∷
    wrote 0x08 0x00 0x00 0x00 (0x0A ∷ 0x44 ∷ []) (0x0A ∷ 0x44 ∷ []) [] ∷ []) ∷
    -- a 15 that turns discard on unlocks, and one that turns it off does not; UU locks, unlocks and redisplays under discard too
    runs
    (initiated ∷ started_a ∷ wrote_nothing 0x01 ∷ stored 0x31 ∷ stepped [] [] ∷
    typed discard_key (0x31 ∷ []) (discard_state 0) ∷
    wrote_nothing 0x01 ∷ stored 0x30 ∷ stepped [] [] ∷
    wrote 0x03 0x04 0x00 0x00 (0x41 ∷ []) (0x0D ∷ 0x0A ∷ 0x3F ∷ 0x20 ∷ 0x31 ∷ []) (completed 1 0 0) ∷
    stepped (0x30 ∷ []) [] ∷
    wrote_nothing 0x01 ∷ stored 0x32 ∷ flipped 1 ∷ stepped [] [] ∷
    wrote_nothing 0x00 ∷ stepped (0x32 ∷ []) [] ∷ []) ∷
    -- immediate clear unlocks, and leaves no read for its step: one with Q and TIMEOUT 0 completes once
    runs
    (initiated ∷ attribute 3 0x01 ∷ timed_read 0x00 ∷ wrote_nothing 0x01 ∷
    typed 3 [] (out_of_band 3 ++ (0x08 ∷ 0x00 ∷ 0x03 ∷ 0x03 ∷ 0x00 ∷ 0x00 ∷ 0x00 ∷ 0x00 ∷ 0x00 ∷ 0x00 ∷ [])) ∷
    started_a ∷ typed 0x31 (0x31 ∷ []) [] ∷ []) ∷
    -- M-104, five rows. Before Initiate even 15 only waits. With a read the step takes the first that waits, and the key that came is more data
    runs
    (stored discard_key ∷ initiated ∷ started_a ∷
    typed 0x32 (0x5E ∷ 0x4F ∷ []) (0x09 ∷ 0x00 ∷ 0x03 ∷ 0x10 ∷ 0x02 ∷ 0x00 ∷ 0x00 ∷ 0x04 ∷ 0x00 ∷ 0x00 ∷ 0x0F ∷ []) ∷
    waiting 1 ∷ []) ∷
    -- a dropped key is followed by the step too, which takes the first of the 64
    runs
    (initiated ∷ stored 0x34 ∷
    (replicate (type_ahead_size - 1) (stored 0x30) ++
    (started_a ∷ asked terminal_area message_area (key 0x32) accepted (0x07 ∷ 0x34 ∷ []) [] 1 ∷ []))) ∷
    -- a read with Q and TIMEOUT 0 completes on 15, hello, 24 and 22; 24 leaves nothing of what was typed
    runs
    (initiated ∷ attribute 3 0x03 ∷
    timed_read 0x00 ∷ typed discard_key [] (discard_state 0 ++ timed_out) ∷
    timed_read 0x00 ∷ typed 3 [] (out_of_band 3 ++ timed_out) ∷
    timed_read 0x00 ∷ typed 0x34 (0x34 ∷ []) [] ∷ typed clear_key (0x08 ∷ 0x20 ∷ 0x08 ∷ []) timed_out ∷
    timed_read 0x00 ∷ typed quote_key [] timed_out ∷ []) ∷
    -- locked, it completes on none of them but the 15 that unlocks; what is quoted waits, until 24 clears it
    runs
    (initiated ∷ attribute 3 0x03 ∷ timed_read 0x00 ∷ wrote_nothing 0x01 ∷
    typed 3 [] (out_of_band 3) ∷ typed quote_key [] [] ∷ stored 0x0D ∷ typed clear_key [] [] ∷ typed discard_key [] (discard_state 0 ++ timed_out) ∷ []) ∷
    -- in an area that is too small the key does not arrive: neither does it wait, nor is it returned
    runs
    (initiated ∷ started_a ∷ asked 32767 2048 (key 0x34) small_area [] [] 0 ∷ asked 32768 2047 (key 0x34) small_area [] [] 0 ∷ waiting 0 ∷
    typed 0x0D (0x0D ∷ 0x0A ∷ []) (0x09 ∷ 0x00 ∷ 0x03 ∷ 0x00 ∷ 0x02 ∷ 0x00 ∷ 0x01 ∷ 0x00 ∷ 0x00 ∷ 0x00 ∷ 0x0D ∷ []) ∷ []) ∷
    -- M-108. The set and accents: "é", raised, is the terminator "É", and "é" in the set does not end the read
    runs
    (initiated ∷ raising_read (set_of_code 0xC9) [] ∷
    typed 0xE9 [] (0x09 ∷ 0x00 ∷ 0x03 ∷ 0x00 ∷ 0x00 ∷ 0x00 ∷ 0x00 ∷ 0x00 ∷ 0x00 ∷ 0x00 ∷ 0xC9 ∷ []) ∷ []) ∷
    runs (initiated ∷ raising_read (set_of_code 0xE9) [] ∷ typed 0xE9 (0xC9 ∷ []) [] ∷ []) ∷
    -- "é" is raised, echoed raised and returned raised
    runs
    (initiated ∷ raising_read (set_of_code 0x0D) [] ∷
    typed 0xE9 (0xC9 ∷ []) [] ∷
    typed 0x0D [] (0x0A ∷ 0x00 ∷ 0x03 ∷ 0x00 ∷ 0x00 ∷ 0x00 ∷ 0x00 ∷ 0x01 ∷ 0x01 ∷ 0x00 ∷ 0xC9 ∷ 0x0D ∷ []) ∷ []) ∷
    -- with II 0 the characteristic decides, and here it is on
    runs (initiated ∷ told (0x0B ∷ 0x00 ∷ 0x04 ∷ 0x02 ∷ 0x01 ∷ []) accepted [] [] ∷ started_a ∷ typed 0xE9 (0xC9 ∷ []) [] ∷ []) ∷
    -- 247, 255 and 223 stay; 255 echoes nothing
    runs
    (initiated ∷ raising_read (set_of_code 0x0D) [] ∷
    typed 247 (247 ∷ []) [] ∷ typed 255 [] [] ∷ typed 223 (223 ∷ []) [] ∷
    typed 0x0D [] (0x0C ∷ 0x00 ∷ 0x03 ∷ 0x00 ∷ 0x00 ∷ 0x00 ∷ 0x00 ∷ 0x02 ∷ 0x03 ∷ 0x00 ∷ 247 ∷ 255 ∷ 223 ∷ 0x0D ∷ []) ∷ []) ∷
    -- the edges of what is raised, but for those of the row above
    runs
    (initiated ∷ raising_read (set_of_code 0x0D) [] ∷
    typed 96 (96 ∷ []) [] ∷ typed 97 (65 ∷ []) [] ∷ typed 122 (90 ∷ []) [] ∷ typed 123 (123 ∷ []) [] ∷
    typed 224 (192 ∷ []) [] ∷ typed 246 (214 ∷ []) [] ∷ typed 248 (216 ∷ []) [] ∷ typed 254 (222 ∷ []) [] ∷ []) ∷
    -- not raised: a quoted "é", which the set is not asked about either, one of the text that the Start Read brings, bytes of a token
    runs (initiated ∷ raising_read (set_of_code 0xE9) [] ∷ typed quote_key [] [] ∷ typed 0xE9 (0xE9 ∷ []) [] ∷ []) ∷
    runs
    (initiated ∷ raising_read (set_of_code 0x0D) (0xE9 ∷ []) ∷
    typed 0x0D [] (0x0A ∷ 0x00 ∷ 0x03 ∷ 0x00 ∷ 0x00 ∷ 0x00 ∷ 0x00 ∷ 0x01 ∷ 0x01 ∷ 0x00 ∷ 0xE9 ∷ 0x0D ∷ []) ∷ []) ∷
    runs
    (initiated ∷ recognising ∷ raising_read (set_of_code 0x0D) [] ∷
    typed_unseen (27 ∷ 91 ∷ 97 ∷ []) (0x0B ∷ 0x00 ∷ 0x03 ∷ 0x01 ∷ 0x00 ∷ 0x00 ∷ 0x00 ∷ 0x00 ∷ 0x00 ∷ 0x00 ∷ 27 ∷ 91 ∷ 97 ∷ [])) ∷
    runs
    (initiated ∷ recognising ∷ raising_read (set_of_code 0x0D) [] ∷
    typed_unseen (27 ∷ 0xE9 ∷ []) (0x0A ∷ 0x00 ∷ 0x03 ∷ 0x02 ∷ 0x00 ∷ 0x00 ∷ 0x00 ∷ 0x00 ∷ 0x00 ∷ 0x00 ∷ 27 ∷ 0xE9 ∷ [])) ∷
    -- a read that does not raise; and no accent is a word character: of "éa" 23 deletes "a" alone
    runs
    (initiated ∷ started_a ∷
    typed 0xE9 (0xE9 ∷ []) [] ∷ typed 0x61 (0x61 ∷ []) [] ∷ typed delete_word_key (0x08 ∷ 0x20 ∷ 0x08 ∷ []) [] ∷ []) ∷
    -- nor is a raised one: of "ÉA" it deletes "A" alone
    runs
    (initiated ∷ raising_read (set_of_code 0x0D) [] ∷
    typed 0xE9 (0xC9 ∷ []) [] ∷ typed 0x61 (0x41 ∷ []) [] ∷ typed delete_word_key (0x08 ∷ 0x20 ∷ 0x08 ∷ []) [] ∷
    typed 0x0D [] (0x0A ∷ 0x00 ∷ 0x03 ∷ 0x00 ∷ 0x00 ∷ 0x00 ∷ 0x00 ∷ 0x01 ∷ 0x01 ∷ 0x00 ∷ 0xC9 ∷ 0x0D ∷ []) ∷ []) ∷ []
