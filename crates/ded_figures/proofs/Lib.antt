mod Sighting
