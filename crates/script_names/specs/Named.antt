-- What a declaration of the index stands for.
use Rattle.script_meaning.specs.Names.{Named, a_signal, a_memo, a_load, a_store, an_area, another, Declaration}
use Rattle.script_names.specs.declared.names.Declared.{Declared}
use Rattle.script_names.specs.declared.what.What.{What}
use Rattle.script_names.specs.declared.what.What.TheVariants as what

abbrev pub named_as : What → Named
named_as (what.Signal id) = a_signal id
named_as (what.Memo id) = a_memo id
named_as (what.Load id) = a_load id
named_as (what.Store store) = a_store store.id store.fields store.starts.now
named_as (what.Area owner) = an_area owner
named_as what.Other = another

abbrev pub declaration_of : Declared → Declaration
declaration_of d = record { owner = d.owner; name = d.name; what = named_as d.what }
