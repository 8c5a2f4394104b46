-- Private structs as what they stand for. Public clauses cite `OpenMap` and `OpenList` alone.
use Rattle.acfg_views.specs.declared.map_file.MapFile.{MapFile}
use Rattle.acfg_views.specs.declared.list_file.ListFile.{ListFile}
use Rattle.acfg_views.specs.Reading.{OpenMap, OpenList}

abbrev pub open_map_of : MapFile → OpenMap
open_map_of m = record {
  file = m.bytes.now;
  version = m.version;
  container = m.container.now;
  count = m.count;
  first_bucket = m.first_bucket;
  first_node = m.first_node;
}

abbrev pub open_list_of : ListFile → OpenList
open_list_of l = record {
  file = l.bytes.now;
  version = l.version;
  container = l.container.now;
  count = l.count;
  first_byte = l.first_byte;
}
