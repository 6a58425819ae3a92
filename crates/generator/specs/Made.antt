-- The script of a seed: three draws for each command (this project's own generator).
use Rattle.std.specs.Prelude.{ℕ, ◌+◌, ◌*◌, ◌/◌, ◌%◌, ◌==◌, nat_lt, List, [], ◌∷◌, ◌++◌, map, codes, if◌then◌else◌}
use Rattle.std.specs.List.{range_with_len}
use Rattle.std.specs.Fmt.{decimal}
use Rattle.kmem_text.specs.Grammar.{Plain, script_of_lines}
use Rattle.kmem_text.specs.declared.spelling.Spelled.{Spelled}
use Rattle.kmem_text.specs.declared.spelling.Spelled.TheVariants.{Put, Get, Del, Next, Count, Link, Hold, Read, Write, Drop, Fix, Loose}
use Rattle.kmem_text.specs.declared.spelling.SpelledLine.{SpelledLine}
use Rattle.generator.specs.Draws.{draw}

-- n and three digits, one of n000 to n255
abbrev pub made_name : ℕ → List ℕ
made_name draw = let n = draw % 256 in codes "n" ++ (48 + n / 100) ∷ (48 + n / 10 % 10) ∷ (48 + n % 10) ∷ []

-- what a put gives: v and a number below a million
abbrev pub put_value : ℕ → List ℕ
put_value draw = codes "v" ++ decimal (draw % 1000000)

-- what a write gives: w and a number below a thousand
abbrev pub write_value : ℕ → List ℕ
write_value draw = codes "w" ++ decimal (draw / 4 % 1000)

-- the commands that come once in 64
abbrev pub rare_command : ℕ → ℕ → Spelled
rare_command first second =
    let kind = second % 4 in
    if kind == 0 then Fix (made_name first) else
    (if kind == 1 then Loose (made_name first) else
    (if kind == 2 then Count else
    Write (first % 8) (write_value second)))

-- the command of three draws
abbrev pub made_command : ℕ → ℕ → ℕ → Spelled
made_command chosen first second =
    let kind = chosen % 16 in
    if nat_lt kind 5 then Put (made_name first) (put_value second) else
    (if nat_lt kind 8 then Get (made_name first) else
    (if nat_lt kind 10 then Del (made_name first) else
    (if kind == 10 then Next (made_name first) else
    (if kind == 11 then Link (made_name first) (made_name second) else
    (if kind == 12 then Hold (second % 8) (made_name first) else
    (if kind == 13 then Read (first % 8) else
    (if kind == 14 then Drop (first % 8) else
    rare_command first second)))))))

-- the workers take turns, and each command has three draws of its own
abbrev pub made_line : ℕ → ℕ → ℕ → SpelledLine
made_line seed workers i = record {
  worker = 1 + i % workers;
  command = made_command (draw seed (3 * i)) (draw seed (3 * i + 1)) (draw seed (3 * i + 2));
}

-- the lines of a seed
abbrev pub made_lines : ℕ → ℕ → ℕ → List SpelledLine
made_lines seed workers commands = map (made_line seed workers) (range_with_len 0 commands)

-- the script of a seed, for so many workers, with so many commands
abbrev pub made : ℕ → ℕ → ℕ → Plain
made seed workers commands = script_of_lines (made_lines seed workers commands)
