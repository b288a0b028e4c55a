-- What contracts see of the tables of a program.
use Rattle.hare_modules.specs.Directory.{Directory as Tables}
use Rattle.hare_directory.specs.declared.directory.Directory.{Directory}

abbrev pub tables_of : Directory → Tables
tables_of d = record { homes = d.homes.items; items = d.items.items; imports = d.imports.items }
